use Rattle.std.proofs.Common.{refl}
use Rattle.large_run.proofs.draws.Draws.draw.Goals as goal

pub returns-clause-drawn : goal.returns-clause-drawn
returns-clause-drawn c = refl

pub returns-clause-state : goal.returns-clause-state
returns-clause-state c = refl
