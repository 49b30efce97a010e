use Rattle.std.proofs.Common.{refl}
use Rattle.port_walk.proofs.stops.kind_of.Goals as goal

pub returns-in-None-Some : goal.returns-in-None-Some
returns-in-None-Some c = rw (c.in-None-Some.is-0, c.in-None-Some.is-1) refl
