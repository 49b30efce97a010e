use Rattle.machine_text.proofs.LawLemmas.{one_machine, no_fault_from_reads}
use Rattle.machine_text.proofs.law.reads_as_one.Goals as goal

pub returns : goal.returns
returns c = record { one = one_machine; no_fault = no_fault_from_reads }
