use Rattle.std.proofs.Common.{refl}
use Rattle.port_walk.proofs.any_port.last_turn.Goals as goal

pub returns : goal.returns
returns c = rw c.min.ensures refl
