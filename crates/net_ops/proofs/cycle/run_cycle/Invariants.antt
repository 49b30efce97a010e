use Rattle.std.proofs.Common.{◌≡◌, ◌*◌, ◌<◌, ◌==◌, ℕ, [], length, slice_index_or}
use Rattle.net_defs.specs.{declared.stimulus.Stimulus.Stimulus, Time.cycle_rows}
use Rattle.net_ops.specs.{States.lane_state, States.IsReady, States.Passes, code.States.HasHeld}
use Rattle.net_ops.proofs.cycle.run_cycle.Given as goal

abbrev pub invariant-places : goal.invariant-places
invariant-places g l = record {
  ready : IsReady g.W.Wire.lanes l.net l.state l.ports;
  lanes : length l.state.memories ≡ length l.fn.state.memories;
  held : 0 < l.place → (k : ℕ) → k < length l.fn.state.memories → HasHeld l.net (g.W.Wire.held l.forces k) l.inputs (lane_state g.W.Wire.lane l.net k l.state).row;
  passes : (k : ℕ) → k < length l.fn.state.memories → (stimulus : Stimulus) (cycle : ℕ) → l.is_first ≡ (cycle == 0)
      → slice_index_or (cycle_rows stimulus) cycle [] ≡ l.inputs
      → Passes l.net l.timing stimulus (g.W.Wire.held l.forces k) (cycle * l.timing.units) l.place (lane_state g.W.Wire.lane l.net k l.fn.state) (lane_state g.W.Wire.lane l.net k l.state);
}
