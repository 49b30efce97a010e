use Rattle.std.proofs.Common.{◌≡◌, ℕ, ◌<◌, length}
use Rattle.home_pick.specs.code.Bags.{entry_at, times}
use Rattle.home_pick.proofs.uses.empty_bag.Given as goal

abbrev pub invariant-numbers : goal.invariant-numbers
invariant-numbers l = record {
  size : length l.bag ≡ l.key;
  keys : (k : ℕ) → k < length l.bag → (entry_at l.bag k).key ≡ k;
  none : (q : ℕ) → times l.bag q ≡ 0;
}
