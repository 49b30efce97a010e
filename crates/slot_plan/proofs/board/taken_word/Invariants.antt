use Rattle.std.proofs.Common.{◌≡◌, ◌↔◌, ℕ, ◌+◌, ◌*◌, ◌<◌}
use Rattle.std.specs.Int.{bit_at}
use Rattle.slot_plan.proofs.BoardLemmas.{IsTakenTo}
use Rattle.slot_plan.proofs.board.taken_word.Given as goal

abbrev pub invariant-readers : goal.invariant-readers
invariant-readers l = (b : ℕ) → b < 64 → (bit_at l.word b ≡ 1) ↔ IsTakenTo l.rows l.ports l.home l.readers l.i (64 * l.w + b)
