use Rattle.std.proofs.Common.{take}
use Rattle.switch_set.specs.Order.{items_of}
use Rattle.image_build.specs.code.Plans.{AreItemsAmong}
use Rattle.image_build.proofs.port_items.port_items.Given as goal

abbrev pub invariant-items : goal.invariant-items
invariant-items l = AreItemsAmong l._nodes l.homes l.plan.slots (take l.k (items_of l.order.items)) l.lists
