use Rattle.std.proofs.Common.{◌+◌}
use Rattle.port_walk.specs.code.Stops.{AreAllBefore}
use Rattle.port_walk.proofs.stops.count_through.Given as goal

abbrev pub invariant-rest : goal.invariant-rest
invariant-rest l = AreAllBefore l.slots (l.slot + 1) l.i
