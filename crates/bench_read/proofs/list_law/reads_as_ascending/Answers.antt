use Rattle.bench_read.proofs.MarkLemmas.{ascends_from_reads}
use Rattle.bench_read.proofs.list_law.reads_as_ascending.Goals as goal

pub returns : goal.returns
returns c = ascends_from_reads
