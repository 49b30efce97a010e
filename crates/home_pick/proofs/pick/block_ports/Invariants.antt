use Rattle.home_pick.specs.code.Rooms.{AreFilled}
use Rattle.home_pick.proofs.pick.block_ports.Given as goal

abbrev pub invariant-memories : goal.invariant-memories
invariant-memories l = AreFilled l.nodes l.machine l.block l.filling
