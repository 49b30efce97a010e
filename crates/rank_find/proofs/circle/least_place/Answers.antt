use Rattle.std.proofs.Common.{rules}
use Rattle.rank_find.proofs.circle.least_place.Goals as goal

pub loop-place-preserved : goal.loop-place-preserved
loop-place-preserved c = search rules
