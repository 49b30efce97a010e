use Rattle.std.proofs.Common.{ℕ, ◌-◌, ◌<◌, ◌≤◌, List, arith, length, subst, sym}
use Rattle.node_defs.specs.Items.{IsNamed, helper_of}
use Rattle.node_map.specs.code.Wires.{operands_of, helpers_at}
use Rattle.node_map.proofs.MadeNodeLemmas.{helper_feed}
use Rattle.node_map.proofs.nodes.feed.Goals as goal

pub returns-else-wire-ops : goal.returns-else-wire-ops
returns-else-wire-ops c =
    let ops = operands_of c.args.net.now c.args.signal in
    let past : length (operands_of c.args.net.now c.args.signal) ≤ c.args.wire = subst (λ (some : List ℕ). length some ≤ c.args.wire) c.operands-ops.ensures c.if-wire-ops.false in
    let low : c.args.wire - length (operands_of c.args.net.now c.args.signal) < helpers_at c.args.net.now c.args.signal = omega (arith, past, c.requires.wire) in
    let named = c.helper_item.ensures c.args.net.now c.requires.numbered c.requires.within (subst (λ (some : List ℕ). c.args.wire - length some < helpers_at c.args.net.now c.args.signal) (sym c.operands-ops.ensures) low) in
    helper_feed c.args.numbering.now.names c.args.late c.args.signal ops c.args.wire c.helper_item.result past
    (subst (λ (some : List ℕ). IsNamed c.args.numbering.now.names c.helper_item.result (helper_of c.args.signal (c.args.wire - length some))) c.operands-ops.ensures named)
