use Rattle.bench_read.proofs.ShapeLemmas.{canonical_is_written}
use Rattle.bench_read.proofs.law.canonical_is_spelled.Goals as goal

pub returns : goal.returns
returns c = canonical_is_written
