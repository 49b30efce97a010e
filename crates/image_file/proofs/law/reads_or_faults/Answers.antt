use Rattle.image_file.proofs.AgainLemmas.{one_file, none_from_reads, reads_or_fault}
use Rattle.image_file.proofs.law.reads_or_faults.Goals as goal

pub returns : goal.returns
returns c = record { some = reads_or_fault; reader = record { one = one_file; no_fault = none_from_reads; some = reads_or_fault } }
