use Rattle.std.proofs.Common.{◌≢◌, ℕ, ◌<◌}
use Rattle.home_pick.specs.code.Bags.{entry_at}
use Rattle.home_pick.proofs.bags.first_place.Given as goal

abbrev pub invariant-entries : goal.invariant-entries
invariant-entries l = (k : ℕ) → k < l.k → (entry_at l.bag k).key ≢ l.key
