use Rattle.std.proofs.Common.{ℕ, ◌+◌, ◌*◌, ◌<◌}
use Rattle.slot_plan.specs.code.Boards.{IsShut}
use Rattle.slot_plan.proofs.board.Board.free_in_span.Given as goal

abbrev pub invariant-words : goal.invariant-words
invariant-words l = (s : ℕ) → s < 64 * (64 * l.span + l.k) → IsShut l.self l.home l.readers l.from s
