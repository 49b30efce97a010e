-- Numbers with a property: all of them in order, and the least one.
use Rattle.std.specs.Prelude.{◌≡◌, ◌↔◌, ℕ, ◌<◌, List, length, Contains}
use Rattle.std.specs.List.Sorted.{IsStrictlyIncreasing}

-- the list has the numbers with the property, in order
pub record Lists (P : ℕ → Type 0) (numbers : List ℕ) : Type 0 where
  pub rising : IsStrictlyIncreasing numbers
  pub exact : (n : ℕ) → Contains numbers n ↔ P n

-- so many numbers have the property
pub record Counts (P : ℕ → Type 0) (count : ℕ) : Type 0 where
  pub numbers : List ℕ
  pub lists : Lists P numbers
  pub are : count ≡ length numbers

-- the least number that is not ruled out
pub record IsLeastFree (IsRuledOut : ℕ → Type 0) (n : ℕ) : Type 0 where
  pub free : IsRuledOut n → ⊥
  pub below : (m : ℕ) → m < n → IsRuledOut m
