use Rattle.std.proofs.Common.{◌≡◌, ℕ, ◌<◌, length, get_or}
use Rattle.rank_find.specs.code.Circle.{place_of_member}
use Rattle.rank_find.proofs.circle.circle.Given as goal

abbrev pub invariant-loop-member : goal.invariant-loop-member
invariant-loop-member l = record {
  members : length l.members ≡ l.member;
  places : (k : ℕ) → k < l.member → get_or l.members k 0 ≡ get_or l.path (place_of_member l.from l.least (length l.path) k) 0;
}
