-- States, and the right step from one state to the next: equations between whole states, one for
-- each signal by its driver, in no order.
use Rattle.std.specs.Prelude.{◌≡◌, ℕ, ◌==◌, Bool, true, false, if◌then◌else◌, List, [], length, map, Option, Some, None, slice_get, slice_index_or, replicate}
use Rattle.std.specs.List.{list_any}
use Rattle.logic_four.specs.{declared.V4.V4, declared.V4.TheVariants.Undef, Values.settled, Gates.gate_value}
use Rattle.logic_four.specs.Memory.{memory_act, MemoryAct, initial_words}
use Rattle.net_defs.specs.declared.netlist.Driver.TheVariants.{Input, Gate, Dff, BlockBit}
use Rattle.net_defs.specs.Time.{is_edge, initial_value, value_at, input_at}
use Rattle.net_defs.specs.declared.{netlist.Netlist.Netlist, netlist.Signal.Signal, netlist.Block.Block, netlist.Driver.Driver, timing.Timing.Timing}
use Rattle.net_defs.specs.declared.{timing.Mode.Mode, stimulus.Stimulus.Stimulus}
use Rattle.net_defs.specs.declared.timing.Mode.TheVariants as mode

-- a state: a value for each signal, and the words of each memory
pub record State : Type 0 where
  pub row : List V4
  pub words : List (List (List V4))

-- the list has this number
abbrev pub is_listed : List ℕ → ℕ → Bool
is_listed listed signal = list_any (λ s. s == signal) listed

-- in rank order no gate is late, in unit delay each is, and in mixed mode those that are listed
abbrev pub late_in : Mode → List ℕ → ℕ → Bool
late_in mode.Rank listed signal = false
late_in mode.Unit listed signal = true
late_in mode.Mixed listed signal = is_listed listed signal

-- a late gate reads the last turn; the others read this turn
abbrev pub is_late : Netlist → Timing → ℕ → Bool
is_late net timing signal = late_in timing.mode timing.listed signal

-- the values of these signals, from left to right
abbrev pub values_of : List V4 → List ℕ → List V4
values_of row signals = map (value_at row) signals

-- what a memory does at an edge: it acts on what its operands had in the state before
abbrev pub act_of : State → Block → List (List V4) → MemoryAct
act_of old memory words =
    memory_act words (value_at old.row memory.we) (values_of old.row memory.address) (values_of old.row memory.word)

-- the words of a memory in a state
abbrev pub words_of : State → ℕ → List (List V4)
words_of state memory = slice_index_or state.words memory []

-- output bit number bit that a memory gives at an edge
abbrev pub output_bit : Netlist → State → ℕ → ℕ → V4
output_bit net old memory bit = option_bit (slice_get net.blocks memory) where
  option_bit : Option Block → V4
  option_bit None = Undef
  option_bit (Some block) = value_at (act_of old block (words_of old memory)).outputs bit

-- what a register or a memory output has: at first its initial value, at an edge the new value, and
-- in every other turn what it had
abbrev pub registered : Timing → ℕ → V4 → V4 → V4
registered timing turn new kept =
    if turn == 1 then initial_value timing.init else if is_edge timing.units turn then new else kept

-- the value that its driver gives a signal at a turn
abbrev pub driven : Netlist → Timing → Stimulus → ℕ → State → State → ℕ → Driver → V4
driven net timing stimulus turn old new signal Input = input_at timing stimulus turn signal
driven net timing stimulus turn old new signal (Gate kind ops) =
    gate_value kind (values_of (if is_late net timing signal then old.row else new.row) ops)
driven net timing stimulus turn old new signal (Dff op) =
    registered timing turn (settled (value_at old.row op)) (value_at old.row signal)
driven net timing stimulus turn old new signal (BlockBit memory bit) =
    registered timing turn (output_bit net old memory bit) (value_at old.row signal)

-- the words of a memory after a turn
abbrev pub words_after : Timing → ℕ → State → Block → List (List V4) → List (List V4)
words_after timing turn old memory words =
    if is_edge timing.units turn then (act_of old memory words).words else words

-- new is a right step of this turn from old
pub record IsRightStep (net : Netlist) (timing : Timing) (stimulus : Stimulus) (turn : ℕ) (old new : State) : Type 0 where
  -- there is one value for each signal, and each meets the equation of its driver
  pub signals : length new.row ≡ length net.signals
  pub values :
      (s : ℕ) (signal : Signal) → slice_get net.signals s ≡ Some signal
      → value_at new.row s ≡ driven net timing stimulus turn old new s signal.driver
  -- there are words for each memory, those of its act at an edge and else as they were
  pub memories : length new.words ≡ length net.blocks
  pub words :
      (m : ℕ) (memory : Block) → slice_get net.blocks m ≡ Some memory
      → words_of new m ≡ words_after timing turn old memory (words_of old m)

-- the state before turn 1: every signal is undefined, and every word has the initial value
abbrev pub first_state : Netlist → Timing → State
first_state net timing = record {
  row = replicate (length net.signals) Undef;
  words = map (λ memory. initial_words (length memory.address) (length memory.word) (initial_value timing.init)) net.blocks;
}
