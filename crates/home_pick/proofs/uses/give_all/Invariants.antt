use Rattle.std.proofs.Common.{take}
use Rattle.home_pick.specs.{Bags.where_at, Crossings.times_in, code.Uses.AreBags, code.Uses.Gives}
use Rattle.home_pick.proofs.uses.give_all.Given as goal

abbrev pub invariant-items : goal.invariant-items
invariant-items l = record {
  bags : AreBags l.bags;
  gives : Gives l.fn.bags l.bags (λ j q. where_at l.port q (times_in (take l.k l.items) j));
}
