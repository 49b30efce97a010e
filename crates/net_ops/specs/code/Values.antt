-- What is put into a row, in one lane of it, and what a turn keeps of the last one.
use Rattle.std.specs.Prelude.{◌≡◌, ℕ, ◌<◌, List, length, take, drop, slice_index}
use Rattle.logic_four.specs.declared.V4.{V4}
use Rattle.net_defs.specs.Time.{value_at}

-- the values after the first so many signals of a list were given what f says
pub record Puts (list : List ℕ) (f : ℕ → V4) (n : ℕ) (old new : List V4) : Type 0 where
  pub signals : length new ≡ length old
  pub inside : (k : ℕ) → k < n → slice_index list k < length old → value_at new (slice_index list k) ≡ f (slice_index list k)
  pub outside : (s : ℕ) → ((k : ℕ) → k < n → slice_index list k ≡ s → ⊥) → value_at new s ≡ value_at old s

-- the values that f says for the signals of a list
pub record IsStagedTo (list : List ℕ) (f : ℕ → V4) (n : ℕ) (values : List V4) : Type 0 where
  pub each : (k : ℕ) → k < n → value_at values k ≡ f (slice_index list k)

-- the first so many values stand a second time, after themselves
pub record Keeps {X : Type 0} (count : ℕ) (old new : List X) : Type 0 where
  pub long : length new ≡ length old
  pub this : take count new ≡ take count old
  pub last : take count (drop count new) ≡ take count old
