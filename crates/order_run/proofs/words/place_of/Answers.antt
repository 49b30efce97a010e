use Rattle.std.proofs.Common.{refl}
use Rattle.order_run.proofs.words.place_of.Goals as goal

pub returns : goal.returns
returns c = refl
