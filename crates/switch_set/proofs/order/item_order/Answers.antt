use Rattle.std.proofs.Common.{◌∙◌, ◌++◌, ◌∷◌, [], sym, ap, arith}
use Rattle.std.proofs.lemmas.List.FromFn.{map-range_with_len_more}
use Rattle.switch_set.specs.code.Order.{placed_at}
use Rattle.switch_set.proofs.order.item_order.Goals as goal

pub items-preserved : goal.items-preserved
items-preserved c =
    c.in_ok-push.ensures.items ∙ ap (λ items. items ++ placed_at c.args.slots.now c.items.item ∷ []) c.items.invariant
    ∙ sym (map-range_with_len_more (placed_at c.args.slots.now) 0 c.items.item c.items.item (omega arith))
