use Rattle.std.proofs.Common.{◌≡◌, take}
use Rattle.plan_defs.specs.ReaderLists.{AreReaders}
use Rattle.switch_set.specs.{code.Links.AreLinked, Order.items_of, Order.IsSlotOrder}
use Rattle.switch_set.proofs.route.settings.Given as goal

abbrev pub invariant-items : goal.invariant-items
invariant-items l = record {
  readers : AreReaders l.nodes l.homes l.readers;
  order : IsSlotOrder l.plan.slots l.placed-items;
  homes : l.home_ports ≡ l.homes.items;
  linked : AreLinked l.nodes l.homes l.plan.slots (take l.placed-index (items_of l.placed-items)) l.ports;
}
