-- States in place, and a step from one to the next, in which signals may be stuck at a value.
use Rattle.std.specs.Prelude.{◌≡◌, ℕ, zero, suc, ◌+◌, ◌<◌, ◌≤◌, List, [], length, Option, Some, slice_get, slice_index_or}
use Rattle.logic_four.specs.{declared.V4.V4, Memory.HasShape}
use Rattle.net_defs.specs.Steps.{State, words_of, driven, words_after}
use Rattle.net_defs.specs.declared.{netlist.Netlist.Netlist, netlist.Signal.Signal, netlist.Block.Block, timing.Timing.Timing, stimulus.Stimulus.Stimulus}
use Rattle.net_defs.specs.Time.{value_at}
use Rattle.net_ops.specs.{declared.ram.RamPort.RamPort, declared.state.LaneState.LaneState, Lanes.forced, Lanes.lane_row, Places.place_count, Places.row_of}
use Rattle.net_ops.specs.Rams.{ArePorts}

-- the state of a lane after this turn
abbrev pub lane_state : {W : Type 0} → (W → ℕ → V4) → Netlist → ℕ → LaneState W → State
lane_state lane net l state = record { row = row_of net (lane_row lane l state.values); words = slice_index_or state.memories l [] }

-- the memories' words stand in their shapes
pub record AreShaped (net : Netlist) (words : List (List (List V4))) : Type 0 where
  pub memories : length words ≡ length net.blocks
  pub shape : (m : ℕ) (memory : Block) → slice_get net.blocks m ≡ Some memory → HasShape (length memory.address) (length memory.word) (slice_index_or words m [])

-- a state that can take a turn: at most so many lanes run
pub record IsReady {W : Type 0} (lanes : ℕ) (net : Netlist) (state : LaneState W) (ports : List RamPort) : Type 0 where
  pub places : length state.values ≡ place_count net
  pub few : length state.memories ≤ lanes
  pub words : (l : ℕ) → l < length state.memories → AreShaped net (slice_index_or state.memories l [])
  pub room : ArePorts net ports

-- a step of the reference simulation, but for the signals that are stuck
pub record IsForcedStep (net : Netlist) (timing : Timing) (stimulus : Stimulus) (stuck : ℕ → Option V4) (turn : ℕ) (old new : State) : Type 0 where
  pub signals : length new.row ≡ length net.signals
  pub values : (s : ℕ) (signal : Signal) → slice_get net.signals s ≡ Some signal → value_at new.row s ≡ forced (stuck s) (driven net timing stimulus turn old new s signal.driver)
  pub memories : length new.words ≡ length net.blocks
  pub words : (m : ℕ) (memory : Block) → slice_get net.blocks m ≡ Some memory → words_of new m ≡ words_after timing turn old memory (words_of old m)

-- so many of those steps, after so many turns
abbrev pub Passes : Netlist → Timing → Stimulus → (ℕ → Option V4) → ℕ → ℕ → State → State → Type 0
Passes net timing stimulus stuck begun zero old new = new ≡ old
Passes net timing stimulus stuck begun (suc n) old new = (mid : State) × Passes net timing stimulus stuck begun n old mid × IsForcedStep net timing stimulus stuck (begun + n + 1) mid new
