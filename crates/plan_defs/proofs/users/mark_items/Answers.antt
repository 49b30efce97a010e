use Rattle.std.proofs.Common.{get_or, length, sym, ap, arith}
use Rattle.plan_defs.proofs.UserLemmas.{item_place, item_more, item_all, read_at}
use Rattle.plan_defs.proofs.users.mark_items.Goals as goal

pub mark_item-requires : goal.mark_item-requires
mark_item-requires c =
    item_place c.args.nodes.now c.args.homes.now _ _ _ c.items.taker _ _
    (read_at c.args.nodes.now.items c.as_slice-items.result.now c.items.taker _ c.as_slice-items.ensures (omega arith))
    (ap (λ xs. get_or xs c.items.taker 0) (sym c.as_slice-ports.ensures)) c.items.invariant.adds c.requires.places

pub items-preserved : goal.items-preserved
items-preserved c = record {
  adds = item_more c.args.nodes.now c.args.homes.now _ _ _ c.items.taker _ _
      (read_at c.args.nodes.now.items c.as_slice-items.result.now c.items.taker _ c.as_slice-items.ensures (omega arith))
      (ap (λ xs. get_or xs c.items.taker 0) (sym c.as_slice-ports.ensures)) c.items.invariant.adds c.mark_item.ensures;
  whole = c.as_slice-items.ensures;
  homes = c.as_slice-ports.ensures;
}

pub returns : goal.returns
returns c = item_all c.args.nodes.now c.args.homes.now _ _ c.items.taker (let whole = ap length c.as_slice-items.ensures in omega (arith, whole)) c.items.invariant.adds
