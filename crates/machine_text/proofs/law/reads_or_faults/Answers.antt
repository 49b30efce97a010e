use Rattle.machine_text.proofs.LawLemmas.{one_machine, no_fault_from_reads, reads_or_fault}
use Rattle.machine_text.proofs.law.reads_or_faults.Goals as goal

pub returns : goal.returns
returns c = record {
  some = reads_or_fault;
  reader = record { one = one_machine; no_fault = no_fault_from_reads; some = reads_or_fault };
}
