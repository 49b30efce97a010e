-- Bits of a word, one after another.
use Rattle.std.specs.Prelude.{◌≡◌, ℕ, ◌<◌, ◌≤◌}
use Rattle.std.specs.Int.{bit_at}

-- the first bit that is set, from this place on
pub record IsNextBit (word from bit : ℕ) : Type 0 where
  pub past : from ≤ bit
  pub within : bit < 64
  pub set : bit_at word bit ≡ 1
  pub between : (b : ℕ) → from ≤ b → b < bit → bit_at word b ≡ 0

-- no bit is set from this place on
abbrev pub HasNoBit : ℕ → ℕ → Type 0
HasNoBit word from = (b : ℕ) → from ≤ b → b < 64 → bit_at word b ≡ 0
