use Rattle.std.proofs.Common.{refl}
use Rattle.image_build.proofs.sources.is_last.Goals as goal

pub returns-in-This : goal.returns-in-This
returns-in-This c = rw c.in-This.is refl
