-- Beside specs/Places.antt, what only private functions and proofs cite.
use Rattle.std.specs.Prelude.{◌≡◌, ◌⊎◌, ℕ, ◌+◌, ◌<◌, ◌≤◌, List, length}
use Rattle.logic_four.specs.declared.V4.TheVariants.{Zero, One, Undef, HighZ}
use Rattle.logic_four.specs.{declared.V4.V4, Values.settled, Packed.packed_value}

-- the places from base on have the values f 0 to f (count - 1), and all others are as they were
pub record Writes (old new : List ℕ) (base count : ℕ) (f : ℕ → V4) : Type 0 where
  pub as_long : length new ≡ length old
  pub inside : (i : ℕ) → i < count → packed_value new (base + i) ≡ f i
  pub outside : (place : ℕ) → (place < base) ⊎ (base + count ≤ place) → packed_value new place ≡ packed_value old place

-- what a write stores of a bit of data: the settled bit if the enable is 1, else undefined
abbrev pub stored : V4 → V4 → V4
stored One d = settled d
stored Zero d = Undef
stored Undef d = Undef
stored HighZ d = Undef
