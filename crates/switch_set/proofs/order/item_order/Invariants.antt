use Rattle.std.proofs.Common.{◌≡◌, map}
use Rattle.std.specs.List.{range_with_len}
use Rattle.switch_set.specs.code.Order.{placed_at}
use Rattle.switch_set.proofs.order.item_order.Given as goal

abbrev pub invariant-items : goal.invariant-items
invariant-items l = l.order.items ≡ map (placed_at l.slots) (range_with_len 0 l.item)
