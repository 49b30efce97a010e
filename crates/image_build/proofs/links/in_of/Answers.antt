use Rattle.std.proofs.Common.{refl}
use Rattle.image_build.proofs.links.in_of.Goals as goal

pub returns : goal.returns
returns c = refl
