use Rattle.std.proofs.Common.{◌≢◌, ◌<◌, ℕ}
use Rattle.home_pick.specs.code.Bags.{times}
use Rattle.home_pick.proofs.spread.covers.Given as goal

abbrev pub invariant-numbers : goal.invariant-numbers
invariant-numbers l = (q : ℕ) → q < l.q → times l.bag q ≢ 0
