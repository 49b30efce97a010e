-- What is made before a run.
use Rattle.std.specs.Prelude.{◌≡◌, ℕ, ◌+◌, ◌<◌, ◌≤◌, false, if◌then◌else◌, List, length, map, Option, Some, None, slice_get, slice_index, slice_index_or, All, AllPairs}
use Rattle.logic_four.specs.{declared.V4.V4, Gates.gate_value}
use Rattle.net_defs.specs.declared.netlist.Driver.TheVariants.{Input, Gate, Dff, BlockBit}
use Rattle.net_defs.specs.declared.{netlist.Netlist.Netlist, netlist.Signal.Signal, netlist.Driver.Driver, timing.Timing.Timing}
use Rattle.net_defs.specs.{Time.value_at, Steps.is_late, Loops.is_gate, Loops.IsOrder}
use Rattle.net_ops.specs.declared.{ops.PairOp.PairOp, schedule.Giver.Giver, schedule.Schedule.Schedule, schedule.Source.Source}
use Rattle.net_ops.specs.{Lanes.forced, Places.place_count, Ops.follow, Ops.IsWithin}
use Rattle.net_ops.specs.declared.schedule.Giver.TheVariants as giver

-- where a gate reads an operand: a late gate among the values of the last turn
abbrev pub operand_place : Netlist → Timing → ℕ → ℕ → ℕ
operand_place net timing gate operand = (if is_late net timing gate then length net.signals else 0) + operand

-- what a gate has by a row; any other signal has what stands in its place
abbrev pub here_driven : Netlist → Timing → ℕ → List V4 → Driver → V4
here_driven net timing s row Input = value_at row s
here_driven net timing s row (Gate kind ops) = gate_value kind (map (λ o. value_at row (operand_place net timing s o)) ops)
here_driven net timing s row (Dff op) = value_at row s
here_driven net timing s row (BlockBit memory bit) = value_at row s

abbrev pub here_value : Netlist → Timing → ℕ → List V4 → V4
here_value net timing s row = of_signal (slice_get net.signals s) where
  of_signal : Option Signal → V4
  of_signal None = value_at row s
  of_signal (Some signal) = here_driven net timing s row signal.driver

-- after the operations each of the first so many signals of the list has what its driver gives by the row as it is
-- then, or what it is stuck at, and all else is as it was
pub record Settles {F : Type 0} (answer : F → V4 → V4 → V4) (is_form : F → Type 0) (net : Netlist) (timing : Timing) (list : List ℕ) (n : ℕ) (ops : List (PairOp F)) : Type 0 where
  pub within : All (IsWithin is_form (length net.signals) (place_count net)) ops
  pub long : (stuck : ℕ → Option V4) (row : List V4) → length (follow answer stuck ops row) ≡ length row
  pub here :
      (stuck : ℕ → Option V4) (row : List V4) (i : ℕ) → length row ≡ place_count net → i < n
      → value_at (follow answer stuck ops row) (slice_index list i) ≡ forced (stuck (slice_index list i)) (here_value net timing (slice_index list i) (follow answer stuck ops row))
  pub others : (stuck : ℕ → Option V4) (row : List V4) (p : ℕ) → ((i : ℕ) → i < n → slice_index list i ≡ p → ⊥) → value_at (follow answer stuck ops row) p ≡ value_at row p

-- what gives a signal with this driver its value, of so many signals; a gate is no source, and its answer is arbitrary
abbrev pub giver_of : ℕ → Driver → Giver
giver_of signals Input = giver.Input
giver_of signals (Gate kind ops) = giver.Memory
giver_of signals (Dff op) = giver.Register (signals + op)
giver_of signals (BlockBit memory bit) = giver.Memory

-- a register takes what a signal had in the last turn
abbrev pub IsTakenFrom : ℕ → Giver → Type 0
IsTakenFrom signals giver.Input = Unit {0}
IsTakenFrom signals (giver.Register taken) = (signals ≤ taken) × (taken < signals + signals)
IsTakenFrom signals giver.Memory = Unit {0}

-- a signal that is no gate, and what gives it its value
pub record IsSource (net : Netlist) (source : Source) : Type 0 where
  pub no_gate : is_gate net source.signal ≡ false
  pub taken : IsTakenFrom (length net.signals) source.giver
  pub given : (signal : Signal) → slice_get net.signals source.signal ≡ Some signal → source.giver ≡ giver_of (length net.signals) signal.driver

-- a source of a list, counted from 0
abbrev pub no_source : Source
no_source = record { signal = 0; giver = giver.Input }

abbrev pub source_at : List Source → ℕ → Source
source_at list k = slice_index_or list k no_source

-- the signals that are no gates, among the first so many, in signal order
pub record AreSources (net : Netlist) (n : ℕ) (list : List Source) : Type 0 where
  pub ordered : AllPairs (λ one other. one.signal < other.signal) list
  pub below : All (λ source. source.signal < n) list
  pub each : All (IsSource net) list
  pub whole : (s : ℕ) → s < n → is_gate net s ≡ false → (k : ℕ) × (k < length list) × ((source_at list k).signal ≡ s)

-- the operations are those of an order, which is not kept
pub record IsSchedule {F : Type 0} (answer : F → V4 → V4 → V4) (is_form : F → Type 0) (net : Netlist) (timing : Timing) (schedule : Schedule F) : Type 0 where
  pub order : List ℕ
  pub is_order : IsOrder net timing order
  pub gates : Settles answer is_form net timing order (length order) schedule.gate_ops
  pub sources : AreSources net (length net.signals) schedule.sources
