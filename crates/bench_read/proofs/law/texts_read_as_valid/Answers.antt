use Rattle.bench_read.proofs.ValidLemmas.{valid_from_reads}
use Rattle.bench_read.proofs.law.texts_read_as_valid.Goals as goal

pub returns : goal.returns
returns c text net short reads = valid_from_reads text net short reads
