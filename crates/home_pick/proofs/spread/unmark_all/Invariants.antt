use Rattle.std.proofs.Common.{◌≢◌, take}
use Rattle.home_pick.specs.code.{Bags.times, Spread.Unmarks, Uses.bag_at}
use Rattle.home_pick.proofs.spread.unmark_all.Given as goal

abbrev pub invariant-taken : goal.invariant-taken
invariant-taken l = Unmarks l.fn.spread l.spread (λ i. times (take l.k l.taken) i ≢ 0 → times (bag_at l.uses i) l.port ≢ 0)
