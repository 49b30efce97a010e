-- Beside specs/Runs.antt, what only private functions and proofs cite.
use Rattle.std.specs.Prelude.{◌≡◌, ℕ, ◌+◌, ◌*◌, ◌<◌, Bool, List, [], ◌∷◌, ◌++◌, length, map, take, replicate, Option, Some, slice_get, All}
use Rattle.std.specs.List.{flat_map}
use Rattle.logic_four.specs.declared.V4.{V4}
use Rattle.net_defs.specs.declared.{netlist.Netlist.Netlist, timing.Timing.Timing, stimulus.Stimulus.Stimulus, trace.CellRow.CellRow}
use Rattle.net_defs.specs.{Steps.State, Steps.values_of, Reference.IsSimulation}
use Rattle.net_ops.specs.{declared.state.LaneState.LaneState, States.lane_state}
use Rattle.ref_sim.specs.Observing.{RunsAs, HasWatchedLanes}

-- a value is that of its one lane
abbrev pub value_in : V4 → ℕ → V4
value_in v l = v

-- each simulation is in this state at this turn
pub record StandsAt (net : Netlist) (timing : Timing) (stimulus : Stimulus) (turn : ℕ) (state : State) : Type 0 where
  pub state_there : (states : List State) → IsSimulation net timing stimulus states → slice_get states turn ≡ Some state

-- the number of cycles of the first so many rows
abbrev pub cycles_before : Stimulus → ℕ → ℕ
cycles_before stimulus r = length (flat_map (λ row. replicate row.times row.values) (take r stimulus.rows))

-- runs side by side have come through so many cycles, or fewer where their observer stopped: each lane stands at
-- the end of what that has looked at
pub record RunsTo {W : Type 0} (lane : W → ℕ → V4) (stuck : ℕ → ℕ → Option V4) (net : Netlist) (timing : Timing) (stimulus : Stimulus) (has_seen : List (List W) → ℕ → Type 0) (goes_on : Bool) (cycles : ℕ) (state : LaneState W) : Type 0 where
  pub watched : HasWatchedLanes lane stuck (length state.memories) net timing stimulus has_seen goes_on cycles
  pub stands :
      (l : ℕ) (other : Netlist) → l < length state.memories → RunsAs net timing stimulus (stuck l) other
      → StandsAt other timing stimulus (length watched.rows * timing.units) (lane_state lane net l state)

-- an observer that is ready for a row more
abbrev pub IsReadyToLook : {W : Type 0} → (List (List W) → ℕ → Type 0) → Type 0
IsReadyToLook {W} has_seen = (seen : List (List W)) × (more : ℕ) × has_seen seen (more + 1)

-- and that has looked at it
abbrev pub HasLooked : {W : Type 0} → (old new : List (List W) → ℕ → Type 0) → List W → Type 0
HasLooked {W} old new row = (seen : List (List W)) (more : ℕ) → old seen (more + 1) → new (seen ++ row ∷ []) more

-- the printed values of a row of signals
abbrev pub printed_row : Netlist → List V4 → CellRow
printed_row net row = record { cells = values_of row net.printed }

-- each row has a value for each printed signal
abbrev pub AreWide : Netlist → List CellRow → Type 0
AreWide net rows = All (λ row. length row.cells ≡ length net.printed) rows

-- a row for each of so many cycles
pub record HasRows (net : Netlist) (cycles : ℕ) (rows : List CellRow) : Type 0 where
  pub long : length rows ≡ cycles
  pub wide : AreWide net rows

-- the rows that were looked at are printed, and there is room for so many more
pub record ArePrinted (net : Netlist) (rows : List CellRow) (done : ℕ) (seen : List (List V4)) (left : ℕ) : Type 0 where
  pub wide : AreWide net rows
  pub count : done ≡ length seen
  pub room : done + left ≡ length rows
  pub cells : take done rows ≡ map (printed_row net) seen
