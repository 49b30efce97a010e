use Rattle.std.proofs.Common.{arith}
use Rattle.list_laws.proofs.Ranges.{range_more}
use Rattle.bench_read.proofs.Common.{common_steps}
use Rattle.bench_read.proofs.numbers.push_range.Goals as goal

pub loop-k-preserved : goal.loop-k-preserved
loop-k-preserved c = grind (arith, common_steps, range_more)
