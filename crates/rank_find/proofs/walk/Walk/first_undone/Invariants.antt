use Rattle.std.proofs.Common.{◌≡◌, ℕ, ◌<◌, ◌≤◌, get_or}
use Rattle.rank_find.specs.{declared.walk.Mark.TheVariants.Done, code.Walk.mark_at}
use Rattle.rank_find.proofs.walk.Walk.first_undone.Given as goal

abbrev pub invariant-loop-place : goal.invariant-loop-place
invariant-loop-place l = (k : ℕ) → l.from ≤ k → k < l.place → mark_at l.self.marks (get_or l.operands k 0) ≡ Done
