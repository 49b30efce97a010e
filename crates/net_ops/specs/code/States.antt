-- Beside specs/States.antt, what only private functions and proofs cite.
use Rattle.std.specs.Prelude.{◌≡◌, ◌≢◌, ℕ, ◌+◌, ◌<◌, ◌≤◌, ◌==◌, Bool, true, false, nat_lt, if◌then◌else◌, List, [], length, map, IsTrue, Option, Some, None, slice_get, slice_index_or}
use Rattle.logic_four.specs.{declared.V4.V4, declared.V4.TheVariants.Undef, Gates.gate_value, Memory.initial_words, Values.settled}
use Rattle.net_defs.specs.declared.netlist.Driver.TheVariants.{Input, Gate, Dff, BlockBit}
use Rattle.net_defs.specs.Steps.{State, values_of, is_late, act_of, words_of, output_bit}
use Rattle.net_defs.specs.declared.netlist.{Netlist.Netlist, Signal.Signal, Block.Block, Driver.Driver}
use Rattle.net_defs.specs.{Time.value_at, Time.is_edge, Time.initial_value, Valid.is_input, declared.timing.Timing.Timing, Loops.is_gate_driver}
use Rattle.net_ops.specs.declared.{schedule.Giver.Giver, schedule.Source.Source, state.LaneState.LaneState, step.Phase.Phase}
use Rattle.net_ops.specs.{Lanes.forced, Lanes.lane_row, Schedules.source_at, code.Places.last_row}
use Rattle.net_ops.specs.declared.schedule.Giver.TheVariants as giver
use Rattle.net_ops.specs.declared.step.Phase.TheVariants as phase

-- the last state of a lane, as long as this turn has changed no memory
abbrev pub last_state : {W : Type 0} → (W → ℕ → V4) → Netlist → ℕ → LaneState W → State
last_state lane net l state = record { row = last_row net (lane_row lane l state.values); words = slice_index_or state.memories l [] }

-- the phase of a turn
abbrev pub phase_of : ℕ → ℕ → Phase
phase_of units turn = if turn == 1 then phase.Start else if is_edge units turn then phase.Edge else phase.Within

-- the words of all memories before the first turn
abbrev pub initial_memories : Netlist → V4 → List (List (List V4))
initial_memories net v = map (λ memory. initial_words (length memory.address) (length memory.word) v) net.blocks

-- the phase of a turn by its place in its cycle
abbrev pub phase_at : Bool → ℕ → Phase
phase_at is_first place = if place == 0 then (if is_first then phase.Start else phase.Edge) else phase.Within

-- what a register or a memory output has in a turn of this phase
abbrev pub by_phase : Phase → V4 → V4 → V4 → V4
by_phase phase.Start initial new kept = initial
by_phase phase.Edge initial new kept = new
by_phase phase.Within initial new kept = kept

abbrev pub words_by_phase : Phase → List (List V4) → List (List V4) → List (List V4)
words_by_phase phase.Start new kept = kept
words_by_phase phase.Edge new kept = new
words_by_phase phase.Within new kept = kept

-- the inputs have these values, or what they are stuck at, and every signal that is stuck has its value
pub record HasHeld (net : Netlist) (stuck : ℕ → Option V4) (inputs row : List V4) : Type 0 where
  pub inputs_held : (s : ℕ) (signal : Signal) → slice_get net.signals s ≡ Some signal → IsTrue (is_input signal.driver) → value_at row s ≡ forced (stuck s) (value_at inputs s)
  pub stuck_held : (s : ℕ) (signal : Signal) → slice_get net.signals s ≡ Some signal → value_at row s ≡ forced (stuck s) (value_at row s)

-- the value that its driver gives a signal in a turn of this phase with these inputs
abbrev pub driven_by : Netlist → Timing → Phase → List V4 → State → State → ℕ → Driver → V4
driven_by net timing at inputs old new s Input = value_at inputs s
driven_by net timing at inputs old new s (Gate kind ops) = gate_value kind (values_of (if is_late net timing s then old.row else new.row) ops)
driven_by net timing at inputs old new s (Dff op) = by_phase at (initial_value timing.init) (settled (value_at old.row op)) (value_at old.row s)
driven_by net timing at inputs old new s (BlockBit memory bit) = by_phase at (initial_value timing.init) (output_bit net old memory bit) (value_at old.row s)

-- a step in a turn of this phase with these inputs: each signal has what its driver gives, or what it is stuck at
pub record StepsBy (net : Netlist) (timing : Timing) (stuck : ℕ → Option V4) (at : Phase) (inputs : List V4) (old new : State) : Type 0 where
  pub signals : length new.row ≡ length net.signals
  pub values : (s : ℕ) (signal : Signal) → slice_get net.signals s ≡ Some signal → value_at new.row s ≡ forced (stuck s) (driven_by net timing at inputs old new s signal.driver)
  pub memories : length new.words ≡ length net.blocks
  pub words : (m : ℕ) (memory : Block) → slice_get net.blocks m ≡ Some memory → words_of new m ≡ words_by_phase at ((act_of old memory (words_of old m)).words) (words_of old m)

-- what an output of a memory has after an edge
abbrev pub output_driven : Netlist → State → Driver → V4
output_driven net old Input = Undef
output_driven net old (Gate kind ops) = Undef
output_driven net old (Dff op) = Undef
output_driven net old (BlockBit memory bit) = output_bit net old memory bit

abbrev pub output_value : Netlist → State → ℕ → V4
output_value net old s = of_signal (slice_get net.signals s) where
  of_signal : Option Signal → V4
  of_signal None = Undef
  of_signal (Some signal) = output_driven net old signal.driver

-- the signal is an output of one of the first so many memories
abbrev pub is_driven_below : ℕ → Driver → Bool
is_driven_below n Input = false
is_driven_below n (Gate kind ops) = false
is_driven_below n (Dff op) = false
is_driven_below n (BlockBit memory bit) = nat_lt memory n

abbrev pub is_answered : Netlist → ℕ → ℕ → Bool
is_answered net n s = of_signal (slice_get net.signals s) where
  of_signal : Option Signal → Bool
  of_signal None = false
  of_signal (Some signal) = is_driven_below n signal.driver

-- the first so many memories have answered into the places of their outputs
pub record Answers (net : Netlist) (old : State) (n : ℕ) (values new : List V4) : Type 0 where
  pub long : length new ≡ length values
  pub each : (p : ℕ) → value_at new p ≡ (if is_answered net n p then output_value net old p else value_at values p)

-- the first so many memories have done their writes
pub record WroteMemories (net : Netlist) (row : List V4) (n : ℕ) (old new : List (List (List V4))) : Type 0 where
  pub memories : length new ≡ length old
  pub written : (m : ℕ) (memory : Block) → m < n → slice_get net.blocks m ≡ Some memory → slice_index_or new m [] ≡ (act_of (record { row = row; words = old }) memory (slice_index_or old m [])).words
  pub others : (m : ℕ) → n ≤ m → slice_index_or new m [] ≡ slice_index_or old m []

-- all memories of a lane have done both
pub record HasActed (net : Netlist) (row new_row : List V4) (words new_words : List (List (List V4))) : Type 0 where
  pub answers : Answers net (record { row = last_row net row; words = words }) (length net.blocks) row new_row
  pub written : WroteMemories net (last_row net row) (length net.blocks) words new_words

-- the signals of a kind have what f says, and all else is as it was
pub record Assigns (which : ℕ → Bool) (f : ℕ → V4) (old new : List V4) : Type 0 where
  pub long : length new ≡ length old
  pub here : (s : ℕ) → which s ≡ true → value_at new s ≡ f s
  pub others : (p : ℕ) → which p ≡ false → value_at new p ≡ value_at old p

-- what a signal has by its giver: `here` is the row once the memories have answered
abbrev pub given_value : Timing → Phase → List V4 → List V4 → ℕ → Giver → V4
given_value timing at inputs here s giver.Input = value_at inputs s
given_value timing at inputs here s (giver.Register taken) = by_phase at (initial_value timing.init) (settled (value_at here taken)) (value_at here s)
given_value timing at inputs here s giver.Memory = by_phase at (initial_value timing.init) (value_at here s) (value_at here s)

-- the first so many sources of a list have that, or what they are stuck at
pub record AreBases (timing : Timing) (stuck : ℕ → Option V4) (at : Phase) (inputs here : List V4) (list : List Source) (n : ℕ) (row : List V4) : Type 0 where
  pub long : length row ≡ length here
  pub made :
      (k : ℕ) → k < n
      → value_at row (source_at list k).signal ≡ forced (stuck (source_at list k).signal) (given_value timing at inputs here (source_at list k).signal (source_at list k).giver)
  pub left : (s : ℕ) → ((k : ℕ) → k < n → (source_at list k).signal ≡ s → ⊥) → value_at row s ≡ value_at here s

-- a row whose signals that are no gates have what their drivers give them, or what they are stuck at
pub record HasSources (net : Netlist) (timing : Timing) (stuck : ℕ → Option V4) (at : Phase) (inputs : List V4) (last : State) (old new : List V4) : Type 0 where
  pub long : length new ≡ length old
  pub given :
      (s : ℕ) (signal : Signal) → at ≢ phase.Within → slice_get net.signals s ≡ Some signal → is_gate_driver signal.driver ≡ false
      → value_at new s ≡ forced (stuck s) (driven_by net timing at inputs last last s signal.driver)
  pub last_kept : (s : ℕ) → value_at new (length net.signals + s) ≡ value_at old (length net.signals + s)
  pub within : at ≡ phase.Within → new ≡ old

-- the words of each memory after a turn of this phase
pub record WordsBy (net : Netlist) (at : Phase) (old : State) (words : List (List (List V4))) : Type 0 where
  pub memories : length words ≡ length net.blocks
  pub each : (m : ℕ) (memory : Block) → slice_get net.blocks m ≡ Some memory → slice_index_or words m [] ≡ words_by_phase at ((act_of old memory (words_of old m)).words) (words_of old m)
