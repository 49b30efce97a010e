use Rattle.std.proofs.Common.{ℕ, ◌*◌, ◌<◌}
use Rattle.slot_plan.specs.code.Boards.{IsShut}
use Rattle.slot_plan.proofs.board.Board.first_free.Given as goal

abbrev pub invariant-spans : goal.invariant-spans
invariant-spans l = (s : ℕ) → s < 4096 * l.span → IsShut l.self l.home l.readers l.from s
