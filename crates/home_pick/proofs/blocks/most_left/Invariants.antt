use Rattle.home_pick.specs.code.Rooms.{IsMostLeft}
use Rattle.home_pick.proofs.blocks.most_left.Given as goal

abbrev pub invariant-ports : goal.invariant-ports
invariant-ports l = IsMostLeft l.left l.a l.most
