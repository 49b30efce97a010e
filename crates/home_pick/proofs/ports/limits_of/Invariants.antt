use Rattle.std.proofs.Common.{◌≡◌}
use Rattle.home_pick.specs.code.Rooms.{limits_of}
use Rattle.home_pick.proofs.ports.limits_of.Given as goal

abbrev pub invariant-ports : goal.invariant-ports
invariant-ports l = l.limits ≡ limits_of l.machine l.what l.port
