-- The quantities of a machine: their words, ranges and defaults.
use Rattle.std.specs.Prelude.{ℕ, Bool, true, false, List, Option, Some, None, if◌then◌else◌, codes, nat_le, ◌&&◌}
use Rattle.std.specs.Str.{str_eq_ignore_ascii_case}
use Rattle.limits.specs.declared.TheConstants.{DEFAULT_LOGIC, DEFAULT_ARRAY, DEFAULT_FUNCTIONS, DEFAULT_ARRAY_BITS, MAX_LOGIC, MAX_ARRAY, MAX_SLOTS, MAX_FUNCTIONS, MAX_ARRAY_BITS, MAX_NODES}
use Rattle.machine_text.specs.declared.quantity.Quantity.TheVariants.{Logic, Array, Slots, Functions, Bits, Nodes}
use Rattle.machine_text.specs.declared.{machine.Limited.Limited, quantity.Version.Version, quantity.Version.TheVariants.One, quantity.Quantity.Quantity}
use Rattle.machine_text.specs.declared.machine.Limited.TheVariants as limited

abbrev pub same_quantity : Quantity → Quantity → Bool
same_quantity Logic Logic = true
same_quantity Array Array = true
same_quantity Slots Slots = true
same_quantity Functions Functions = true
same_quantity Bits Bits = true
same_quantity Nodes Nodes = true
same_quantity _ _ = false

-- the quantity that a word names, in any letter case
unfoldable pub named : List ℕ → Option Quantity
named word =
    if is (codes "logic") then Some Logic
    else if is (codes "array") then Some Array
    else if is (codes "slots") then Some Slots
    else if is (codes "functions") then Some Functions
    else if is (codes "bits") then Some Bits
    else if is (codes "nodes") then Some Nodes
    else None
  where
    is : List ℕ → Bool
    is name = str_eq_ignore_ascii_case word name

-- whether a text of the version can set the quantity
abbrev pub is_word : Version → Quantity → Bool
is_word One Nodes = false
is_word _ _ = true

-- what a quantity limits at each port, if it is such a limit
abbrev pub per_port : Quantity → Option Limited
per_port Functions = Some limited.Functions
per_port Nodes = Some limited.Nodes
per_port Bits = Some limited.Bits
per_port _ = None

-- the quantity that is limited at a port
abbrev pub quantity_of : Limited → Quantity
quantity_of limited.Functions = Functions
quantity_of limited.Nodes = Nodes
quantity_of limited.Bits = Bits

abbrev pub least_of : Quantity → ℕ
least_of Array = 0
least_of _ = 1

abbrev pub most_of : Quantity → ℕ
most_of Logic = MAX_LOGIC
most_of Array = MAX_ARRAY
most_of Slots = MAX_SLOTS
most_of Functions = MAX_FUNCTIONS
most_of Bits = MAX_ARRAY_BITS
most_of Nodes = MAX_NODES

abbrev pub default_of : Quantity → ℕ
default_of Logic = DEFAULT_LOGIC
default_of Array = DEFAULT_ARRAY
default_of Slots = MAX_SLOTS
default_of Functions = DEFAULT_FUNCTIONS
default_of Bits = DEFAULT_ARRAY_BITS
default_of Nodes = MAX_NODES

abbrev pub in_range : Quantity → ℕ → Bool
in_range quantity n = nat_le (least_of quantity) n && nat_le n (most_of quantity)
