-- What an observer of a run has looked at.
use Rattle.std.specs.Prelude.{◌≡◌, ℕ, ◌+◌, ◌*◌, ◌<◌, Bool, true, List, [], length, Option, Some, slice_get, slice_index_or}
use Rattle.logic_four.specs.declared.V4.{V4}
use Rattle.net_defs.specs.{declared.netlist.Netlist.Netlist, declared.timing.Timing.Timing, declared.stimulus.Stimulus.Stimulus, Time.cycle_count}
use Rattle.net_defs.specs.{Steps.State, Steps.first_state, Steps.IsRightStep, Loops.IsOrder, Reference.IsSimulation}
use Rattle.net_ops.specs.{Lanes.lane_row, States.IsForcedStep}

-- the values of all signals at the end of a cycle, counted from 1: those of its last turn
abbrev pub end_row : Timing → List State → ℕ → List V4
end_row timing states cycle = (slice_index_or states (cycle * timing.units) (record { row = []; words = [] })).row

-- these are the values of all signals at the ends of the first cycles of every simulation
abbrev pub AreEndRows : Netlist → Timing → Stimulus → List (List V4) → Type 0
AreEndRows net timing stimulus rows =
    (states : List State) → IsSimulation net timing stimulus states
    → (c : ℕ) (row : List V4) → slice_get rows c ≡ Some row → row ≡ end_row timing states (c + 1)

-- what it has looked at are the ends of the first cycles of every simulation, and of all cycles if it
-- goes on; it is ready for the others
pub record HasWatched (net : Netlist) (timing : Timing) (stimulus : Stimulus) (has_seen : List (List V4) → ℕ → Type 0) (goes_on : Bool) : Type 0 where
  pub rows : List (List V4)
  pub left : ℕ
  pub seen : has_seen rows left
  pub cycles : length rows + left ≡ cycle_count stimulus
  pub ends : AreEndRows net timing stimulus rows
  pub all : goes_on ≡ true → length rows ≡ cycle_count stimulus

-- a run in which these signals of the netlist are stuck is a simulation of the other one, which has an order
pub record RunsAs (net : Netlist) (timing : Timing) (stimulus : Stimulus) (stuck : ℕ → Option V4) (other : Netlist) : Type 0 where
  pub order : List ℕ
  pub is_order : IsOrder other timing order
  pub first : first_state other timing ≡ first_state net timing
  pub steps : (turn : ℕ) (old new : State) → IsForcedStep net timing stimulus stuck turn old new → IsRightStep other timing stimulus turn old new

-- a lane of these rows has the values at the ends of the first cycles of every simulation
abbrev pub AreLaneEnds : {W : Type 0} → (W → ℕ → V4) → ℕ → Netlist → Timing → Stimulus → List (List W) → Type 0
AreLaneEnds {W} lane l net timing stimulus rows =
    (states : List State) → IsSimulation net timing stimulus states
    → (c : ℕ) (row : List W) → slice_get rows c ≡ Some row → lane_row lane l row ≡ end_row timing states (c + 1)

-- the same of runs side by side, in which signals may be stuck: where the run of a lane is a simulation of another
-- netlist, what the observer has looked at are its ends. One that goes on has looked at so many cycles
pub record HasWatchedLanes {W : Type 0} (lane : W → ℕ → V4) (stuck : ℕ → ℕ → Option V4) (lanes : ℕ) (net : Netlist) (timing : Timing) (stimulus : Stimulus) (has_seen : List (List W) → ℕ → Type 0) (goes_on : Bool) (upto : ℕ) : Type 0 where
  pub rows : List (List W)
  pub left : ℕ
  pub seen : has_seen rows left
  pub cycles : length rows + left ≡ cycle_count stimulus
  pub ends : (l : ℕ) (other : Netlist) → l < lanes → RunsAs net timing stimulus (stuck l) other → AreLaneEnds lane l other timing stimulus rows
  pub all : goes_on ≡ true → length rows ≡ upto
