-- One bit of a word.
use Rattle.std.proofs.Common.{◌≡◌, ◌≢◌, ◌∙◌, ℕ, zero, suc, ◌+◌, ◌-◌, ◌*◌, ◌/◌, ◌%◌, ◌^◌, ◌<◌, bit_and, bit_or, w32, refl, arith}
use Rattle.std.proofs.lemmas.Nat.Bits.{bit_at_or, bit_at_ones, bit_at-zero, bit_at_set_same, bit_at_set_other, bit_at_clear_same, bit_at_clear_other}
use Rattle.std.proofs.{lemmas.Nat.or_lt, lemmas.Nat.and_le_l, Math.Pow.pow-lt}
use Rattle.std.specs.{Prelude.max, Int.bit_at}
use Rattle.limits.specs.declared.TheConstants.{LANES}
use Rattle.logic_four.specs.{declared.V4.V4, Values.code_of, Values.value_of}

-- the word with the bit k cleared, and then the bit put there
abbrev cleared : ℕ → ℕ → ℕ
cleared word k = bit_and word (4294967295 - 1 * 2 ^ k % 4294967296)

abbrev put : ℕ → ℕ → ℕ → ℕ
put word k bit = bit_or (cleared word k) (bit * 2 ^ k % 4294967296)

no_bit : (k : ℕ) → 0 * 2 ^ k % 4294967296 ≡ 0
no_bit k = omega arith

pub put_here : (word k bit : ℕ) → k < 32 → bit < 2 → bit_at (put word k bit) k ≡ bit
put_here word k zero low few =
    rw (no_bit k)
    (bit_at_or (cleared word k) 0 k ∙ rw (bit_at_clear_same w32 word k low, bit_at-zero k) refl)
put_here word k (suc zero) low few = bit_at_set_same w32 (cleared word k) k low
put_here word k (suc (suc bit)) low few = absurd (omega (arith, few))

pub put_other : (word k bit j : ℕ) → k < 32 → bit < 2 → j < 32 → j ≢ k → bit_at (put word k bit) j ≡ bit_at word j
put_other word k zero j low few within differ =
    rw (no_bit k)
    (bit_at_or (cleared word k) 0 j
    ∙ rw (bit_at_clear_other w32 word k low j within differ, bit_at-zero j) (max_zero (bit_at word j))) where
      max_zero : (n : ℕ) → max n 0 ≡ n
      max_zero n = omega arith
put_other word k (suc zero) j low few within differ =
    bit_at_set_other w32 (cleared word k) k low j differ
    ∙ bit_at_clear_other w32 word k low j within differ
put_other word k (suc (suc bit)) j low few within differ = absurd (omega (arith, few))

pub put_small : (word k bit : ℕ) → word < 2 ^ LANES → k < LANES → bit < 2 → put word k bit < 2 ^ LANES
put_small word k bit small low few =
    or_lt LANES (cleared word k) (bit * 2 ^ k % 4294967296)
    (omega (arith, small, and_le_l word (4294967295 - 1 * 2 ^ k % 4294967296)))
    (shifted bit few)
  where
    shifted : (bit : ℕ) → bit < 2 → bit * 2 ^ k % 4294967296 < 2 ^ LANES
    shifted zero few = omega arith
    shifted (suc zero) few = omega (arith, pow-lt low)
    shifted (suc (suc bit)) few = absurd (omega (arith, few))

-- the word whose every bit is the same
pub spread : (bit k : ℕ) → bit < 2 → k < LANES → bit_at (bit * (2 ^ LANES - 1)) k ≡ bit
spread zero k few low = bit_at-zero k
spread (suc zero) k few low = bit_at_ones LANES k low
spread (suc (suc bit)) k few low = absurd (omega (arith, few))

-- the value of a code's two bits
pub value_of_bits : (v : V4) → value_of (code_of v % 2 + 2 * (code_of v / 2)) ≡ v
value_of_bits v = grind arith
