use Rattle.std.proofs.Common.{ℕ, ◌<◌, ◌≤◌, length, get_or}
use Rattle.rank_find.proofs.circle.least_place.Given as goal

abbrev pub invariant-loop-place : goal.invariant-loop-place
invariant-loop-place l = record {
  after : l.from ≤ l.least;
  within : l.least < length l.path;
  below : (k : ℕ) → l.from ≤ k → k < l.place → get_or l.path l.least 0 ≤ get_or l.path k 0;
}
