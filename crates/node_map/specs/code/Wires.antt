-- What drives a signal, and the ranks that its nodes have.
use Rattle.std.specs.Prelude.{◌≡◌, ℕ, zero, suc, ◌+◌, ◌-◌, ◌==◌, Bool, max, if◌then◌else◌, List, [], ◌∷◌, ◌++◌, length, map, Option, Some, None, slice_get, slice_index}
use Rattle.net_defs.specs.declared.netlist.Driver.TheVariants.{Input, Gate, Dff, BlockBit}
use Rattle.net_defs.specs.declared.{netlist.Netlist.Netlist, netlist.Signal.Signal, netlist.Driver.Driver, timing.Timing.Timing}
use Rattle.net_defs.specs.{Steps.is_late, Loops.gate_operands}
use Rattle.node_defs.specs.Groups.{groups, group_at, helper_count}

-- the operands of the gate that drives a signal; of all else none
abbrev pub operands_of : Netlist → ℕ → List ℕ
operands_of net s = of_signal (slice_get net.signals s) where
  of_signal : Option Signal → List ℕ
  of_signal None = []
  of_signal (Some signal) = gate_operands signal.driver

-- the number of helpers of what drives a signal
abbrev pub helpers_at : Netlist → ℕ → ℕ
helpers_at net s = helper_count (length (operands_of net s))

-- the class of the items of a driver, and of a signal
abbrev pub class_of_driver : Driver → ℕ
class_of_driver Input = 0
class_of_driver (Gate kind ops) = 2
class_of_driver (Dff op) = 2
class_of_driver (BlockBit memory bit) = 1

abbrev pub class_at : Netlist → ℕ → ℕ
class_at net s = of_signal (slice_get net.signals s) where
  of_signal : Option Signal → ℕ
  of_signal None = 0
  of_signal (Some signal) = class_of_driver signal.driver

-- the least rank of what takes this operand, where the own nodes have these ranks
abbrev pub past_of : Netlist → List ℕ → Bool → ℕ → ℕ
past_of net own late operand = if late then 0 else if class_at net operand == 2 then slice_index own operand + 1 else 0

-- the greatest of so many numbers from a place on
abbrev pub most_of : List ℕ → ℕ → ℕ → ℕ
most_of numbers first zero = 0
most_of numbers first (suc count) = max (most_of numbers first count) (slice_index numbers (first + count))

-- the least ranks of what takes the operands of a gate of n operands and its first wires by their
-- groups, where those of the operands are these
abbrev pub pasts_to : ℕ → List ℕ → ℕ → List ℕ
pasts_to n operands zero = operands
pasts_to n operands (suc place) =
    pasts_to n operands place ++ (most_of (pasts_to n operands place) (group_at n place).first (group_at n place).size + 1) ∷ []

-- the same of all the wires of a gate, and last of what takes its own node
abbrev pub pasts_of : Netlist → List ℕ → Bool → List ℕ → List ℕ
pasts_of net own late ops = pasts_to (length ops) (map (past_of net own late) ops) (length (groups (length ops)))

-- the rank of the item of a signal at this place: of a helper by its number, or of its own node
abbrev pub rank_at : Netlist → Timing → List ℕ → ℕ → ℕ → ℕ
rank_at net timing own s place =
    slice_index (pasts_of net own (is_late net timing s) (operands_of net s)) (length (operands_of net s) + place) - 1

-- the rank of the own item of each signal
pub record AreOwnRanks (net : Netlist) (timing : Timing) (own : List ℕ) : Type 0 where
  pub signals : length own ≡ length net.signals
  pub ranks : (s : ℕ) → slice_index own s ≡ rank_at net timing own s (helpers_at net s)
