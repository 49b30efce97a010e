use Rattle.std.proofs.Common.{◌≡◌, ℕ, length}
use Rattle.home_pick.specs.code.{Bags.times, Uses.bag_at, Uses.AreBags}
use Rattle.home_pick.proofs.uses.empty_bags.Given as goal

abbrev pub invariant-bags : goal.invariant-bags
invariant-bags l = record {
  size : length l.bags ≡ l.i;
  bags : AreBags l.bags;
  none : (i q : ℕ) → times (bag_at l.bags i) q ≡ 0;
}
