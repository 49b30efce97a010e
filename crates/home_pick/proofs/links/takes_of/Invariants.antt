use Rattle.std.proofs.Common.{◌≡◌, ℕ, ◌<◌, ◌≤◌, length}
use Rattle.home_pick.specs.{code.Bags.times, Crossings.uses_by, code.Uses.bag_at, code.Uses.AreBags}
use Rattle.home_pick.proofs.links.takes_of.Given as goal

abbrev pub invariant-items : goal.invariant-items
invariant-items l = record {
  whole : l.items ≡ l.nodes.items;
  size : length l.takes ≡ l.u;
  bags : AreBags l.takes;
  few : (u : ℕ) → length (bag_at l.takes u) ≤ 4;
  times : (u i : ℕ) → u < l.u → times (bag_at l.takes u) i ≡ uses_by l.nodes u i;
}
