-- What a gate waits for, loops, orders in which no gate comes before one that it waits for, and the
-- rank of a gate.
use Rattle.std.specs.Prelude.{◌≡◌, ◌≢◌, ℕ, ◌+◌, ◌-◌, ◌<◌, ◌≤◌, Bool, true, false, max, if◌then◌else◌, List, [], length, take, IsTrue, Option, Some, None, slice_get, slice_index, fold, All, AllPairs, Contains, ◌⊎◌}
use Rattle.net_defs.specs.declared.netlist.Driver.TheVariants.{Input, Gate, Dff, BlockBit}
use Rattle.net_defs.specs.declared.{netlist.Netlist.Netlist, netlist.Signal.Signal, netlist.Driver.Driver, timing.Timing.Timing, ranks.Ranks.Ranks}
use Rattle.net_defs.specs.{Steps.is_late, Valid.IsSignal}

-- the driver is a gate
abbrev pub is_gate_driver : Driver → Bool
is_gate_driver Input = false
is_gate_driver (Gate kind ops) = true
is_gate_driver (Dff op) = false
is_gate_driver (BlockBit memory bit) = false

-- the operands of a gate; of all else none
abbrev pub gate_operands : Driver → List ℕ
gate_operands Input = []
gate_operands (Gate kind ops) = ops
gate_operands (Dff op) = []
gate_operands (BlockBit memory bit) = []

-- a gate drives the signal of this number
abbrev pub is_gate : Netlist → ℕ → Bool
is_gate net s = of_signal (slice_get net.signals s) where
  of_signal : Option Signal → Bool
  of_signal None = false
  of_signal (Some signal) = is_gate_driver signal.driver

abbrev pub IsGate : Netlist → ℕ → Type 0
IsGate net s = IsTrue (is_gate net s)

-- the signals whose values of this turn the signal of this number needs: of a gate that is not late
-- its operands, and of all else none
abbrev pub waits_for : Netlist → Timing → ℕ → List ℕ
waits_for net timing s = of_signal (slice_get net.signals s) where
  of_signal : Option Signal → List ℕ
  of_signal None = []
  of_signal (Some signal) = if is_late net timing s then [] else gate_operands signal.driver

-- gates that wait in a circle: different gates, at least one, each an operand of the next and the last
-- one of the first
pub record IsCircle (net : Netlist) (timing : Timing) (circle : List ℕ) : Type 0 where
  pub some : 1 ≤ length circle
  pub different : AllPairs (λ s t. s ≢ t) circle
  pub gates : All (IsGate net) circle
  pub next :
      (i : ℕ) → i + 1 < length circle
      → Contains (waits_for net timing (slice_index circle (i + 1))) (slice_index circle i)
  pub closed :
      Contains (waits_for net timing (slice_index circle 0)) (slice_index circle (length circle - 1))

-- a loop as it is named: a circle begun at the member that stands first in signal order
pub record IsLoop (net : Netlist) (timing : Timing) (loop : List ℕ) : Type 0 where
  pub circle : IsCircle net timing loop
  pub least : All (λ s. slice_index loop 0 ≤ s) loop

-- an order: each gate once, after all the gates that it waits for
pub record IsOrder (net : Netlist) (timing : Timing) (order : List ℕ) : Type 0 where
  pub different : AllPairs (λ s t. s ≢ t) order
  pub gates : All (IsGate net) order
  pub whole : (s : ℕ) → IsGate net s → Contains order s
  pub after :
      (i operand : ℕ) → i < length order
      → Contains (waits_for net timing (slice_index order i)) operand
      → IsGate net operand → Contains (take i order) operand

-- the least rank of a gate that waits for this signal, as far as this signal goes
abbrev pub rank_past : Netlist → List ℕ → ℕ → ℕ
rank_past net rank operand = if is_gate net operand then slice_index rank operand + 1 else 0

-- one more than the greatest rank of the gates among these signals, and 0 where there is none
abbrev pub rank_above : Netlist → List ℕ → List ℕ → ℕ
rank_above net rank signals =
    fold (λ greatest operand. max greatest (rank_past net rank operand)) 0 signals

-- the rank of each signal, by what it waits for; what waits for no gate has rank 0
pub record IsRanking (net : Netlist) (timing : Timing) (rank : List ℕ) : Type 0 where
  pub signals : length rank ≡ length net.signals
  pub numbers :
      (s : ℕ) → IsSignal net s → slice_index rank s ≡ rank_above net rank (waits_for net timing s)

-- the order and the ranks of a netlist; an order is no longer than the netlist
pub record AreRanks (net : Netlist) (timing : Timing) (ranks : Ranks) : Type 0 where
  pub order : IsOrder net timing ranks.order
  pub few : length ranks.order ≤ length net.signals
  pub rank : IsRanking net timing ranks.rank

-- there is an order or a loop
abbrev pub OrderOrLoop : Netlist → Timing → Type 0
OrderOrLoop net timing =
    ((order : List ℕ) × IsOrder net timing order) ⊎ ((loop : List ℕ) × IsLoop net timing loop)
