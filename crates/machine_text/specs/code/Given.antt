-- What is kept of the lines so far, and what one more line does.
use Rattle.std.specs.Prelude.{ℕ, Bool, nat_eq, nat_lt, List, [], ◌∷◌, ◌++◌, Option, Some, None, if◌then◌else◌}
use Rattle.std.specs.List.{list_any}
use Rattle.machine_text.specs.declared.saying.Says.TheVariants.{Nothing, Sets, Limits, Other}
use Rattle.machine_text.specs.declared.{given.Given.Given, machine.Limited.Limited}
use Rattle.machine_text.specs.declared.machine.{Limited.TheVariants.Functions, Limited.TheVariants.Nodes, Limited.TheVariants.Bits, MachNo.MachNo}
use Rattle.machine_text.specs.declared.machine.MachNo.TheVariants.{Syntax, Range, Twice}
use Rattle.machine_text.specs.{declared.quantity.Quantity.Quantity, declared.saying.Says.Says, Quantities.in_range, Quantities.quantity_of, Settings.sets}

-- the number, where it is in the quantity's range
abbrev pub if_in_range : Quantity → ℕ → Option ℕ
if_in_range quantity n = if in_range quantity n then Some n else None

-- the number, where it is below a count
abbrev pub if_below : ℕ → ℕ → Option ℕ
if_below count n = if nat_lt n count then Some n else None

-- nothing is kept yet
abbrev pub given_none : Given
given_none = record { settings = []; functions = []; nodes = []; bits = [] }

-- the ports that have their own limit
abbrev pub ports_in : Given → Limited → List ℕ
ports_in given Functions = given.functions
ports_in given Nodes = given.nodes
ports_in given Bits = given.bits

-- with one more such port
abbrev pub with_port : Given → Limited → ℕ → Given
with_port given Functions port = record given { functions = given.functions ++ port ∷ [] }
with_port given Nodes port = record given { nodes = given.nodes ++ port ∷ [] }
with_port given Bits port = record given { bits = given.bits ++ port ∷ [] }

-- with one more setting
abbrev pub with_setting : Given → Quantity → ℕ → Given
with_setting given quantity n =
    record given { settings = given.settings ++ record { quantity = quantity; value = n } ∷ [] }

abbrev pub given_fault : ℕ → Bool → Bool → Option MachNo
given_fault line twice allowed =
    if twice then Some (Twice line) else if allowed then None else Some (Range line)

-- the fault of a line
abbrev pub fault_in : Given → ℕ → Says → Option MachNo
fault_in given line Nothing = None
fault_in given line Other = Some (Syntax line)
fault_in given line (Sets quantity n) =
    given_fault line (list_any (sets quantity) given.settings) (in_range quantity n)
fault_in given line (Limits what port n) =
    given_fault line (list_any (nat_eq port) (ports_in given what)) (in_range (quantity_of what) n)

-- what is kept after a line without a fault
abbrev pub given_after : Given → Says → Given
given_after given (Sets quantity n) = with_setting given quantity n
given_after given (Limits what port n) = with_port given what port
given_after given _ = given
