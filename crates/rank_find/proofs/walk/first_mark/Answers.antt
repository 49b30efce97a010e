use Rattle.std.proofs.Common.{refl}
use Rattle.rank_find.proofs.walk.first_mark.Goals as goal

pub returns-in-Gate : goal.returns-in-Gate
returns-in-Gate c = rw c.in-Gate.is refl
