use Rattle.bench_read.proofs.StuckLemmas.{one_list, none_from_reads}
use Rattle.bench_read.proofs.stuck_law.reads_as_one.Goals as goal

pub returns : goal.returns
returns c = record { one = one_list; no_fault = none_from_reads }
