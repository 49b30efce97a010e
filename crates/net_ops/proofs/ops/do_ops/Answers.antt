use Rattle.std.proofs.Common.{◌∙◌, ap, length, subst, sym}
use Rattle.std.proofs.lemmas.List.{length-set}
use Rattle.net_ops.specs.{Lanes.lane_row, Ops.IsWithin, Ops.do_op}
use Rattle.net_ops.proofs.OpLemmas.{follow_more, op_done}
use Rattle.net_ops.proofs.ops.do_ops.Goals as goal

pub ops-preserved : goal.ops-preserved
ops-preserved g c =
    let lane = g.W.Wire.lane in
    let i = c.ops.op-index in
    let op = c.op-item.result in
    let long = c.ops.invariant.long in
    let within = subst (λ n. IsWithin g.W.Wire.is_form n n op) (sym long) (subst (IsWithin g.W.Wire.is_form (length c.args.row.now) (length c.args.row.now)) (sym c.op-item.is) (c.requires.within i op c.ops-test.true)) in
    record {
      long = length-set c.ops.row op.gate c.forced.result ∙ long;
      lanes = λ k low.
          follow_more g.W.Wire.answer g.W.Wire.is_form (g.W.Wire.held c.args.forces.now k) c.args.ops.now (lane_row lane k c.args.row.now) (lane_row lane k c.ops.row) _ i op c.ops-test.true (c.ops.invariant.lanes k low)
          (op_done lane g.W.Wire.answer (g.W.Wire.held c.args.forces.now k) k op c.ops.row c.index-row-op.result c.index-row-op-in-ops.result c.pair-answer.result c.forced.result within.a within.b c.index-row-op.is c.index-row-op-in-ops.is
          (c.pair-answer.ensures k low) (c.forced.ensures k low)
          ∙ ap (do_op g.W.Wire.answer (g.W.Wire.held c.args.forces.now k) (lane_row lane k c.ops.row)) c.op-item.is);
    }
