-- Stuck faults, and the faulty design: one signal has the same value at every turn, and all else is as
-- it was.
use Rattle.std.specs.Prelude.{◌≡◌, ◌≢◌, ℕ, List, [], ◌∷◌, length, Some, slice_get, slice_set}
use Rattle.std.specs.List.{flat_map, range_with_len}
use Rattle.logic_four.specs.declared.V4.TheVariants.{Zero, One, Undef, HighZ}
use Rattle.logic_four.specs.declared.{V4.V4, Kind.TheVariants.And, Kind.TheVariants.Or}
use Rattle.net_defs.specs.Steps.{State, driven, words_of, words_after, IsRightStep}
use Rattle.net_defs.specs.declared.netlist.{Netlist.Netlist, Signal.Signal, Block.Block, Driver.Driver, Driver.TheVariants.Gate}
use Rattle.net_defs.specs.{declared.timing.Timing.Timing, declared.stimulus.Stimulus.Stimulus, Time.value_at, Canonical.name_of, Loops.IsCircle}
use Rattle.net_defs.specs.{Reference.HasOneSimulation, declared.faults.Fault.Fault}
pub use Rattle.net_defs.specs.Valid.{IsFault}

-- a driver that gives 1 where the value is 1, and else 0: an AND of no operands is 1, and an OR of none 0
abbrev pub constant : V4 → Driver
constant Zero = Gate Or []
constant One = Gate And []
constant Undef = Gate Or []
constant HighZ = Gate Or []

-- the faulty design: the signal has a driver that always gives the value
abbrev pub stuck : Netlist → Fault → Netlist
stuck net fault = record net {
  signals = slice_set net.signals fault.signal (record { name = name_of net fault.signal; driver = constant fault.value });
}

-- the two faults of a signal
abbrev pub faults_at : ℕ → List Fault
faults_at s = record { signal = s; value = Zero } ∷ record { signal = s; value = One } ∷ []

-- the faults of so many signals from one on, signal by signal
abbrev pub faults_from : ℕ → ℕ → List Fault
faults_from begun signals = flat_map faults_at (range_with_len begun signals)

-- all stuck faults of a netlist
abbrev pub all_faults : Netlist → List Fault
all_faults net = faults_from 0 (length net.signals)

-- a step of the faulty design: the stuck signal has its value, each other signal what its driver gives,
-- and each memory acts as ever
pub record IsStuckStep (net : Netlist) (timing : Timing) (stimulus : Stimulus) (fault : Fault) (turn : ℕ) (old new : State) : Type 0 where
  pub signals : length new.row ≡ length net.signals
  pub stuck : value_at new.row fault.signal ≡ fault.value
  pub others :
      (s : ℕ) (signal : Signal) → s ≢ fault.signal → slice_get net.signals s ≡ Some signal
      → value_at new.row s ≡ driven net timing stimulus turn old new s signal.driver
  pub memories : length new.words ≡ length net.blocks
  pub words :
      (m : ℕ) (memory : Block) → slice_get net.blocks m ≡ Some memory
      → words_of new m ≡ words_after timing turn old memory (words_of old m)

-- the right steps of the faulty netlist are the steps of the faulty design
abbrev pub StepsAsStuck : Type 0
StepsAsStuck =
    (net : Netlist) (timing : Timing) (stimulus : Stimulus) (fault : Fault) (turn : ℕ) (old new : State)
    → IsFault net fault → IsRightStep (stuck net fault) timing stimulus turn old new
    → IsStuckStep net timing stimulus fault turn old new

abbrev pub StuckStepsRight : Type 0
StuckStepsRight =
    (net : Netlist) (timing : Timing) (stimulus : Stimulus) (fault : Fault) (turn : ℕ) (old new : State)
    → IsFault net fault → IsStuckStep net timing stimulus fault turn old new
    → IsRightStep (stuck net fault) timing stimulus turn old new

-- where the netlist has no loop, there is exactly one faulty simulation
abbrev pub HasOneFaulty : Type 0
HasOneFaulty =
    (net : Netlist) (timing : Timing) (stimulus : Stimulus) (fault : Fault)
    → ((members : List ℕ) → IsCircle net timing members → ⊥) → IsFault net fault
    → HasOneSimulation (stuck net fault) timing stimulus
