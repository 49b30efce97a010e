use Rattle.std.proofs.Common.{get_or, length, sym, ap, arith}
use Rattle.plan_defs.proofs.UserLemmas.{read_at}
use Rattle.slot_plan.proofs.TableLemmas.{table_place, table_more, table_all}
use Rattle.slot_plan.proofs.tables.mark_tables.Goals as goal

pub mark_table-requires : goal.mark_table-requires
mark_table-requires c =
    table_place c.args.nodes.now c.args.homes.now c.items.node _ _
    (read_at c.args.nodes.now.items c.as_slice-items.result.now c.items.node _ c.as_slice-items.ensures (omega arith))
    (ap (λ xs. get_or xs c.items.node 0) (sym c.as_slice-ports.ensures)) _ _ _ c.items.invariant.adds c.requires.places

pub items-preserved : goal.items-preserved
items-preserved c = record {
  adds = table_more c.args.nodes.now c.args.homes.now c.items.node _ _
      (read_at c.args.nodes.now.items c.as_slice-items.result.now c.items.node _ c.as_slice-items.ensures (omega arith))
      (ap (λ xs. get_or xs c.items.node 0) (sym c.as_slice-ports.ensures)) _ _ _ c.items.invariant.adds c.mark_table.ensures;
  whole = c.as_slice-items.ensures;
  homes = c.as_slice-ports.ensures;
}

pub returns : goal.returns
returns c = table_all c.args.nodes.now c.args.homes.now _ _ c.items.node (let whole = ap length c.as_slice-items.ensures in omega (arith, whole)) c.items.invariant.adds
