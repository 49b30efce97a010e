use Rattle.std.proofs.Common.{ℕ, ◌<◌}
use Rattle.home_pick.specs.code.Rooms.{LacksBits}
use Rattle.home_pick.proofs.blocks.first_with_room.Given as goal

abbrev pub invariant-ports : goal.invariant-ports
invariant-ports l = (b : ℕ) → b < l.a → LacksBits l.left l.needed b
