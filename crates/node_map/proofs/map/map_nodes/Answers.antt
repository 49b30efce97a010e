use Rattle.std.proofs.Common.{sym, subst}
use Rattle.net_defs.specs.Loops.{IsOrder}
use Rattle.node_map.specs.code.Places.{AreKeyed, AreRight}
use Rattle.node_map.proofs.map.map_nodes.Goals as goal

pub returns : goal.returns
returns c = record {
  items = c.in_ok-nodes.ensures;
  values = c.values_are_reference.ensures c.args.net.now c.args.timing.now c.in_ok-nodes.nodes c.requires.valid c.in_ok-nodes.ensures.items;
}

pub ranked_keys-requires-clause-order : goal.ranked_keys-requires-clause-order
ranked_keys-requires-clause-order c = subst (IsOrder c.args.net.now c.args.timing.now) (sym c.as_slice.ensures) c.requires.ranked.order

pub nodes_of-requires-clause-keyed : goal.nodes_of-requires-clause-keyed
nodes_of-requires-clause-keyed c = subst (AreKeyed c.args.net.now) (sym c.as_slice-2.ensures.value) c.in_ok-keys.ensures.keyed

pub nodes_of-requires-clause-ranked : goal.nodes_of-requires-clause-ranked
nodes_of-requires-clause-ranked c =
    let ranked = c.in_ok-keys.ensures.ranked in
    (ranked.0, ranked.1, subst (AreRight c.args.net.now c.args.timing.now ranked.0) (sym c.as_slice-2.ensures.value) ranked.2)
