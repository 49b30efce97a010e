use Rattle.std.proofs.Common.{take}
use Rattle.home_pick.specs.{Bags.where_at, code.Bags.times, code.Uses.AreBags, code.Uses.Gives}
use Rattle.home_pick.proofs.uses.take_bag.Given as goal

abbrev pub invariant-taken : goal.invariant-taken
invariant-taken l = record {
  bags : AreBags l.bags;
  gives : Gives l.bags l.fn.bags (λ j q. where_at l.port q (times (take l.k l.taken) j));
}
