-- Valid netlists, timings and stimuli, by plain facts that mention no text. The limits are this
-- project's profile.
use Rattle.std.specs.Prelude.{◌≡◌, ◌⊎◌, ℕ, ◌+◌, ◌^◌, ◌<◌, ◌≤◌, Bool, true, false, List, length, IsTrue, Some, slice_get, slice_index, count_by, All}
use Rattle.std.specs.List.{sum_by, range_with_len}
use Rattle.limits.specs.declared.TheConstants.{MAX_SIGNALS, MAX_OPERANDS, MAX_ADDRESS_BITS, MAX_WORD_BITS, MAX_UNITS, MAX_CYCLES}
use Rattle.logic_four.specs.{declared.V4.TheVariants.Zero, declared.V4.TheVariants.One, Kinds.AllowsOperands}
pub use Rattle.text_lines.specs.Names.{IsName}
use Rattle.net_defs.specs.declared.netlist.Driver.TheVariants.{Input, Gate, Dff, BlockBit}
use Rattle.net_defs.specs.declared.{netlist.Netlist.Netlist, netlist.Signal.Signal, netlist.Block.Block, netlist.Driver.Driver, faults.Fault.Fault}
use Rattle.net_defs.specs.{declared.timing.Timing.Timing, declared.stimulus.StimRow.StimRow, declared.stimulus.Stimulus.Stimulus, Time.cycle_count}
use Rattle.net_defs.specs.declared.timing.Mode.TheVariants as mode

-- the number of a signal
abbrev pub IsSignal : Netlist → ℕ → Type 0
IsSignal net s = s < length net.signals

-- the stimulus drives it
abbrev pub is_input : Driver → Bool
is_input Input = true
is_input (Gate kind ops) = false
is_input (Dff op) = false
is_input (BlockBit memory bit) = false

-- what its driver names is there, and is allowed: signal s stands in its memory's outputs at its bit
abbrev pub IsDrivable : Netlist → ℕ → Driver → Type 0
IsDrivable net s Input = Unit {0}
IsDrivable net s (Gate kind ops) = AllowsOperands kind (length ops) × All (IsSignal net) ops
IsDrivable net s (Dff op) = IsSignal net op
IsDrivable net s (BlockBit m bit) =
    (memory : Block) × (slice_get net.blocks m ≡ Some memory) × (slice_get memory.outs bit ≡ Some s)

-- a memory of 1 to 16 address bits and 1 to 64 data bits, whose outputs stand side by side in signal
-- order, each driven by its bit of this memory
pub record IsMemory (net : Netlist) (m : ℕ) (memory : Block) : Type 0 where
  pub enable : IsSignal net memory.we
  pub address : All (IsSignal net) memory.address
  pub address_bits : (1 ≤ length memory.address) × (length memory.address ≤ MAX_ADDRESS_BITS)
  pub word : All (IsSignal net) memory.word
  pub word_bits : (1 ≤ length memory.word) × (length memory.word ≤ MAX_WORD_BITS)
  pub outs : memory.outs ≡ range_with_len (slice_index memory.outs 0) (length memory.word)
  pub driven :
      (bit s : ℕ) → slice_get memory.outs bit ≡ Some s
      → (signal : Signal) × (slice_get net.signals s ≡ Some signal)
      × (signal.driver ≡ BlockBit m bit)

-- the operands within the round brackets of a signal's line; a memory's are counted by themselves
abbrev pub operand_count : Driver → ℕ
operand_count Input = 0
operand_count (Gate kind ops) = length ops
operand_count (Dff op) = 1
operand_count (BlockBit memory bit) = 0

abbrev pub memory_operand_count : Block → ℕ
memory_operand_count memory = 1 + length memory.address + length memory.word

-- each signal has a name
abbrev pub AreNamed : List Signal → Type 0
AreNamed signals =
    (s : ℕ) (signal : Signal) → slice_get signals s ≡ Some signal → IsName signal.name

-- no two signals have one name
abbrev pub NamesDiffer : List Signal → Type 0
NamesDiffer signals =
    (s t : ℕ) (one other : Signal)
    → slice_get signals s ≡ Some one → slice_get signals t ≡ Some other
    → one.name ≡ other.name → s ≡ t

-- what stands before an input is an input
abbrev pub InputsLead : List Signal → Type 0
InputsLead signals =
    (s t : ℕ) (one other : Signal)
    → slice_get signals s ≡ Some one → slice_get signals t ≡ Some other
    → s < t → IsTrue (is_input other.driver) → IsTrue (is_input one.driver)

-- a valid netlist
pub record IsValid (net : Netlist) : Type 0 where
  pub names : AreNamed net.signals
  pub distinct : NamesDiffer net.signals
  pub inputs_first : InputsLead net.signals
  -- what a driver, a memory or an output line names is there
  pub drivers :
      (s : ℕ) (signal : Signal) → slice_get net.signals s ≡ Some signal
      → IsDrivable net s signal.driver
  pub memories :
      (m : ℕ) (memory : Block) → slice_get net.blocks m ≡ Some memory → IsMemory net m memory
  pub memories_in_order :
      (m n : ℕ) (one other : Block)
      → slice_get net.blocks m ≡ Some one → slice_get net.blocks n ≡ Some other
      → m < n → slice_index one.outs 0 < slice_index other.outs 0
  pub printed : All (IsSignal net) net.printed
  -- the limits
  pub few_signals : length net.signals ≤ MAX_SIGNALS
  pub few_operands :
      sum_by (λ signal. operand_count signal.driver) net.signals
      + sum_by memory_operand_count net.blocks
      ≤ MAX_OPERANDS
  pub few_printed : length net.printed < 2 ^ 32

-- a stuck fault of the netlist: a signal of it, stuck at 0 or at 1
pub record IsFault (net : Netlist) (fault : Fault) : Type 0 where
  pub signal : IsSignal net fault.signal
  pub value : (fault.value ≡ Zero) ⊎ (fault.value ≡ One)

-- each number is greater than those before it
abbrev pub Ascends : List ℕ → Type 0
Ascends numbers =
    (i j : ℕ) → i < j → j < length numbers → slice_index numbers i < slice_index numbers j

-- a valid timing: 1 to 4,096 turns a cycle, and 1 in rank order; the list ascends
pub record IsValidTiming (timing : Timing) : Type 0 where
  pub some : 1 ≤ timing.units
  pub few : timing.units ≤ MAX_UNITS
  pub rank : timing.mode ≡ mode.Rank → timing.units ≡ 1
  pub ascends : Ascends timing.listed

-- a valid stimulus: each row has a value for each input and 1 to 1,000,000 cycles, of which there
-- are at most 1,000,000 in all
pub record IsValidStimulus (stimulus : Stimulus) : Type 0 where
  pub columns :
      (r : ℕ) (row : StimRow) → slice_get stimulus.rows r ≡ Some row
      → length row.values ≡ stimulus.columns
  pub times :
      (r : ℕ) (row : StimRow) → slice_get stimulus.rows r ≡ Some row
      → (1 ≤ row.times) × (row.times ≤ MAX_CYCLES)
  pub cycles : cycle_count stimulus ≤ MAX_CYCLES

-- the number of inputs
abbrev pub input_count : Netlist → ℕ
input_count net = count_by (λ signal. is_input signal.driver) net.signals
