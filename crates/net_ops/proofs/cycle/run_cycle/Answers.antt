use Rattle.std.proofs.Common.{◌≡◌, ◌∙◌, ◌*◌, length, subst, arith}
use Rattle.net_ops.specs.States.{lane_state, Passes}
use Rattle.net_ops.proofs.Steps.{passes_more, step_held, within_later}
use Rattle.net_ops.proofs.cycle.run_cycle.Goals as goal

pub turn-requires-clause-held : goal.turn-requires-clause-held
turn-requires-clause-held g c = λ within l low.
    c.places.invariant.held (within_later c.args.is_first c.places.place _ c.phase_at.ensures within) l (omega (arith, low, c.places.invariant.lanes))

pub places-preserved : goal.places-preserved
places-preserved g c =
    let kept : length c.turn.new.state.memories ≡ length c.args.state.now.memories = c.turn.ensures.lanes ∙ c.places.invariant.lanes in
    record {
      ready = c.turn.ensures.ready;
      lanes = kept;
      held = λ later k low. step_held c.args.net.now c.args.timing.now (g.W.Wire.held c.args.forces.now k) _ _ _ _ (c.turn.ensures.steps k (omega (arith, low, c.places.invariant.lanes)));
      passes = λ k low stimulus cycle first row.
          passes_more c.args.net.now c.args.timing.now stimulus (g.W.Wire.held c.args.forces.now k) c.args.is_first cycle c.places.place c.args.inputs.now _ (lane_state g.W.Wire.lane c.args.net.now k c.args.state.now) _ _
          first row c.places-test.true c.phase_at.ensures (c.turn.ensures.steps k (omega (arith, low, c.places.invariant.lanes))) (c.places.invariant.passes k low stimulus cycle first row);
    }

pub returns-clause-passes : goal.returns-clause-passes
returns-clause-passes g c = λ k low stimulus cycle first row.
    subst (λ n. Passes c.args.net.now c.args.timing.now stimulus (g.W.Wire.held c.args.forces.now k) (cycle * c.args.timing.now.units) n (lane_state g.W.Wire.lane c.args.net.now k c.args.state.now) (lane_state g.W.Wire.lane c.args.net.now k c.places.state))
    (omega (arith, c.places-test.false, c.places.auto.place-end)) (c.places.invariant.passes k low stimulus cycle first row)
