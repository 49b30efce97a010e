use Rattle.std.proofs.Common.{refl}
use Rattle.large_run.proofs.draws.Draws.reached.Goals as goal

pub returns : goal.returns
returns c = refl
