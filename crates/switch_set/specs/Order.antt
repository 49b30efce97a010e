-- Items in slot order.
use Rattle.std.specs.Prelude.{◌≡◌, ◌≢◌, ℕ, ◌<◌, List, length, map, Contains, All}
use Rattle.std.specs.List.{AllPairs, Sorted.IsNonDecreasingBy}
use Rattle.plan_defs.specs.Slots.{slot_of}
use Rattle.switch_set.specs.declared.order.Placed.{Placed}

-- this is an item in its slot
abbrev pub IsPlaced : List ℕ → Placed → Type 0
IsPlaced slots placed = (placed.item < length slots) × (placed.slot ≡ slot_of slots placed.item)

-- the numbers of the items
abbrev pub items_of : List Placed → List ℕ
items_of order = map (λ placed. placed.item) order

-- every item once, in its slot, and none before one of a lower slot
pub record IsSlotOrder (slots : List ℕ) (order : List Placed) : Type 0 where
  pub rising : IsNonDecreasingBy (λ placed. placed.slot) order
  pub placed : All (IsPlaced slots) order
  pub whole : (i : ℕ) → i < length slots → Contains (items_of order) i
  pub once : AllPairs (λ i j. i ≢ j) (items_of order)
