use Rattle.std.proofs.{Common.subst, Common.rules, lemmas.List.Sorted.IsNonDecreasingBy-from_sort_by_key}
use Rattle.std.specs.List.Sorted.{IsPermutation}
use Rattle.switch_set.proofs.OrderLemmas.{sorted_items}
use Rattle.switch_set.proofs.order.slot_order.Goals as goal

pub returns : goal.returns
returns c =
    sorted_items c.args.slots.now c.sort_by_key.new.self.items
    (subst (λ items. IsPermutation items c.sort_by_key.new.self.items) c.in_ok-order.ensures c.in_ok-sort_by_key.ensures.permutation)
    (IsNonDecreasingBy-from_sort_by_key (λ placed. placed.slot) _ c.in_ok-sort_by_key.ensures.sorted (λ a r q k. search rules))
