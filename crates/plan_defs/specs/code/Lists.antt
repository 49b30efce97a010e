-- Beside specs/Lists.antt, what only private functions and proofs cite.
use Rattle.std.specs.Prelude.{ℕ, ◌<◌, ◌≤◌, List, length, Contains}
use Rattle.std.specs.List.Sorted.{IsStrictlyIncreasing}

-- the list has the numbers below the end with the property, in order
pub record ListsBelow (P : ℕ → Type 0) (end : ℕ) (numbers : List ℕ) : Type 0 where
  pub rising : IsStrictlyIncreasing numbers
  pub below : (n : ℕ) → Contains numbers n → n < end
  pub holds : (n : ℕ) → Contains numbers n → P n
  pub whole : (n : ℕ) → n < end → P n → Contains numbers n
  pub size : length numbers ≤ end
