use Rattle.machine_text.proofs.LawLemmas.{valid_from_reads}
use Rattle.machine_text.proofs.law.reads_as_valid.Goals as goal

pub returns : goal.returns
returns c = valid_from_reads
