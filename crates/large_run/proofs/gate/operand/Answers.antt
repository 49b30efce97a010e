use Rattle.std.proofs.Common.{refl}
use Rattle.large_run.specs.Draws.{draw}
use Rattle.large_run.proofs.gate.operand.Goals as goal

pub returns-clause-operand : goal.returns-clause-operand
unfolding draw
returns-clause-operand c = rw c.draw.ensures.drawn refl
