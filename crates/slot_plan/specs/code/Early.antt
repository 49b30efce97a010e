-- Which slots are too early for an item.
use Rattle.std.specs.Prelude.{◌↔◌, ℕ, ◌<◌, ◌≤◌, List, slice_index}

-- one of the items has slot s or a later one
abbrev pub IsAnyLate : (ℕ → Type 0) → List ℕ → ℕ → Type 0
IsAnyLate IsAwaited slots s = (o : ℕ) × IsAwaited o × (s ≤ slice_index slots o)

-- the slots before this one, and no others, are too early for what awaits these items
abbrev pub IsFrom : (ℕ → Type 0) → List ℕ → ℕ → Type 0
IsFrom IsAwaited slots from = (s : ℕ) → (s < from) ↔ IsAnyLate IsAwaited slots s
