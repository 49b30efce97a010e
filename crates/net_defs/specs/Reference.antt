-- The reference simulation: the states from turn 0 to the last turn, each a right step from the one
-- before.
use Rattle.std.specs.Prelude.{◌≡◌, ℕ, ◌+◌, List, length, Some, slice_get}
use Rattle.net_defs.specs.{declared.netlist.Netlist.Netlist, declared.timing.Timing.Timing, declared.stimulus.Stimulus.Stimulus, Time.turn_count}
use Rattle.net_defs.specs.Steps.{State, IsRightStep, first_state}

-- these states are the reference simulation
pub record IsSimulation (net : Netlist) (timing : Timing) (stimulus : Stimulus) (states : List State) : Type 0 where
  pub turns : length states ≡ turn_count timing stimulus + 1
  pub first : slice_get states 0 ≡ Some (first_state net timing)
  pub steps :
      (turn : ℕ) (old new : State)
      → slice_get states turn ≡ Some old → slice_get states (turn + 1) ≡ Some new
      → IsRightStep net timing stimulus (turn + 1) old new

-- there is a reference simulation, and no second one
pub record HasOneSimulation (net : Netlist) (timing : Timing) (stimulus : Stimulus) : Type 0 where
  pub states : List State
  pub exists : IsSimulation net timing stimulus states
  pub only : (others : List State) → IsSimulation net timing stimulus others → others ≡ states
