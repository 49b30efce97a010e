use Rattle.std.proofs.Common.{ℕ, ◌<◌}
use Rattle.home_pick.specs.code.Rooms.{IsSpent}
use Rattle.home_pick.proofs.turns.first_past.Given as goal

abbrev pub invariant-ports : goal.invariant-ports
invariant-ports l = (e : ℕ) → e < l.past → IsSpent l.left l.start e
