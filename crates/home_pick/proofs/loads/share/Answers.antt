use Rattle.std.proofs.Common.{refl}
use Rattle.home_pick.proofs.loads.share.Goals as goal

pub returns : goal.returns
returns c = refl
