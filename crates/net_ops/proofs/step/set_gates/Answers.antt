use Rattle.std.proofs.Common.{◌∙◌, ap, length}
use Rattle.net_defs.specs.Loops.{is_gate}
use Rattle.net_ops.proofs.AssignLemmas.{ops_told, ops_within, settles_assigns}
use Rattle.net_ops.proofs.step.set_gates.Goals as goal

pub do_ops-requires-clause-within : goal.do_ops-requires-clause-within
do_ops-requires-clause-within g c = ops_within g.W.Wire.answer g.W.Wire.is_form c.args.net.now c.args.timing.now _ _ _ _ c.requires.schedule.gates c.as_slice.ensures _ (ap length c.as_mut_slice.ensures.value ∙ c.requires.long)

pub do_ops-requires-clause-forces : goal.do_ops-requires-clause-forces
do_ops-requires-clause-forces g c = ops_told g.W.Wire.answer g.W.Wire.is_form c.args.net.now c.args.timing.now _ _ _ _ c.requires.schedule.gates c.as_slice.ensures _ c.requires.forces

pub returns-clause-gates : goal.returns-clause-gates
returns-clause-gates g c = λ l low.
    settles_assigns g.W.Wire.lane g.W.Wire.answer g.W.Wire.is_form c.args.net.now c.args.timing.now (g.W.Wire.held c.args.forces.now l) l (is_gate c.args.net.now) _ _ _ _ _ _
    (λ k below. c.requires.schedule.is_order.gates k 0 below) c.requires.schedule.is_order.whole c.requires.schedule.gates c.as_slice.ensures c.as_mut_slice.ensures.value c.requires.long c.do_ops.ensures.long (c.do_ops.ensures.lanes l low)
