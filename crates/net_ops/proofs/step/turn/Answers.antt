use Rattle.std.proofs.Common.{◌∙◌, ◌<◌, [], length, get_or, subst, arith}
use Rattle.net_ops.specs.{Lanes.lane_row, States.lane_state, code.Values.Keeps}
use Rattle.net_ops.proofs.{LaneLemmas.lane_keeps, LaneLemmas.lane_long, TurnLemmas.turn_steps, TurnLemmas.turn_words, TurnLemmas.still_shaped}
use Rattle.net_ops.proofs.step.turn.Goals as goal

pub returns-clause-steps : goal.returns-clause-steps
returns-clause-steps g c = λ l low.
    let lane = g.W.Wire.lane in
    let few : l < g.W.Wire.lanes = omega (arith, low, c.requires.ready.few) in
    turn_steps c.args.net.now c.args.timing.now (g.W.Wire.held c.args.forces.now l) c.args.phase c.args.inputs.now (get_or c.args.state.now.memories l []) (get_or c.set_sources.new.state.memories l [])
    (lane_row lane l c.args.state.now.values) (lane_row lane l c.keep.new.row) (lane_row lane l c.set_sources.new.state.values) (lane_row lane l c.set_gates.new.row)
    c.requires.valid (lane_long lane c.args.state.now.values l ∙ c.requires.ready.places) (λ within. c.requires.held within l low) (lane_keeps lane (length c.args.net.now.signals) l _ _ (subst (λ n. Keeps n c.args.state.now.values c.keep.new.row) c.len.ensures c.keep.ensures))
    (c.set_sources.ensures.sources l low) (c.set_gates.ensures.gates l few) (c.set_sources.ensures.words l low)

pub returns-clause-ready : goal.returns-clause-ready
returns-clause-ready g c = record {
  places = c.set_gates.ensures.long ∙ (c.set_sources.ensures.long ∙ (c.keep.ensures.long ∙ c.requires.ready.places));
  few = omega (arith, c.set_sources.ensures.lanes, c.requires.ready.few);
  words = λ l below.
      let lane = g.W.Wire.lane in
      let low : l < length c.args.state.now.memories = omega (arith, below, c.set_sources.ensures.lanes) in
      let few : l < g.W.Wire.lanes = omega (arith, low, c.requires.ready.few) in
      still_shaped c.args.net.now c.args.phase (lane_state lane c.args.net.now l c.args.state.now) _ (c.requires.ready.words l low)
      (turn_words c.args.net.now c.args.timing.now (g.W.Wire.held c.args.forces.now l) c.args.phase c.args.inputs.now (get_or c.args.state.now.memories l []) (get_or c.set_sources.new.state.memories l [])
      (lane_row lane l c.args.state.now.values) (lane_row lane l c.keep.new.row) (lane_row lane l c.set_sources.new.state.values) (lane_row lane l c.set_gates.new.row)
      c.requires.valid (lane_long lane c.args.state.now.values l ∙ c.requires.ready.places) (λ within. c.requires.held within l low) (lane_keeps lane (length c.args.net.now.signals) l _ _ (subst (λ n. Keeps n c.args.state.now.values c.keep.new.row) c.len.ensures c.keep.ensures))
      (c.set_sources.ensures.sources l low) (c.set_gates.ensures.gates l few) (c.set_sources.ensures.words l low));
  room = c.set_sources.ensures.ports;
}
