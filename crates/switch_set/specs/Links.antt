-- What the ports send and receive once so many items are linked.
use Rattle.std.specs.Prelude.{◌≡◌, ℕ, List, map, Some, slice_get}
use Rattle.std.specs.List.Sorted.{IsStrictlyIncreasing}

-- ---- items

-- one for each item with the property, in slot order, at most one in a slot
pub record IsSlotList {T : Type 0} (slot : T → ℕ) (IsOf : ℕ → T → Type 0) (IsIn : ℕ → Type 0) (list : List T) : Type 0 where
  pub rising : IsStrictlyIncreasing (map slot list)
  pub each : (k : ℕ) (x : T) → slice_get list k ≡ Some x → (i : ℕ) × IsIn i × IsOf i x
  pub whole : (i : ℕ) → IsIn i → (k : ℕ) × (x : T) × (slice_get list k ≡ Some x) × IsOf i x
