-- The bits of words that stand for planes: each word operation at one lane.
use Rattle.std.proofs.Common.{◌≡◌, ◌∙◌, ℕ, ◌+◌, ◌-◌, ◌%◌, ◌^◌, ◌<◌, bit_and, bit_or, w32, refl, ap, ap₂, arith}
use Rattle.std.proofs.lemmas.Nat.Bits.{bit_at_and, bit_at_or, bit_at_xor, bit_at_not, bit_at_ones, bit_at-zero}
use Rattle.std.proofs.lemmas.Nat.{or_lt, xor_lt, and_le_l}
use Rattle.std.specs.{Prelude.min, Prelude.max, Int.bit_at, Int.RustNames.bit_xor, Int.Bits.and_lt}
use Rattle.limits.specs.declared.TheConstants.{LANES}
use Rattle.lane_planes.specs.declared.planes.Planes.{Planes}

-- a word of a bit a lane whose bit k is x
pub record Word (k n x : ℕ) : Type 0 where
  pub small : n < 2 ^ LANES
  pub bit : bit_at n k ≡ x

pub both : {k a b x y : ℕ} → Word k a x → Word k b y → Word k (bit_and a b) (min x y)
both {k} {a} {b} first second = record {
  small = and_lt LANES a b first.small second.small;
  bit = bit_at_and a b k ∙ ap₂ min first.bit second.bit;
}

pub either : {k a b x y : ℕ} → Word k a x → Word k b y → Word k (bit_or a b) (max x y)
either {k} {a} {b} first second = record {
  small = or_lt LANES a b first.small second.small;
  bit = bit_at_or a b k ∙ ap₂ max first.bit second.bit;
}

pub differ : {k a b x y : ℕ} → Word k a x → Word k b y → Word k (bit_xor a b) ((x + y) % 2)
differ {k} {a} {b} first second = record {
  small = xor_lt LANES a b first.small second.small;
  bit = bit_at_xor a b k ∙ ap₂ (λ x y. (x + y) % 2) first.bit second.bit;
}

-- those of a that b lacks
pub apart : {k a b x y : ℕ} → k < LANES → Word k a x → Word k b y → Word k (bit_and a (4294967295 - b)) (min x (1 - y))
apart {k} {a} {b} low first second = record {
  small = and_small a (4294967295 - b) first.small;
  bit =
      bit_at_and a (4294967295 - b) k
      ∙ ap₂ min first.bit
      (bit_at_not w32 b k (omega (arith, second.small)) (omega (arith, low)) ∙ ap (λ y. 1 - y) second.bit);
} where
  and_small : (a b : ℕ) → a < 2 ^ LANES → bit_and a b < 2 ^ LANES
  and_small a b small = omega (arith, small, and_le_l a b)

-- the word of ones
pub all_ones : {k : ℕ} → k < LANES → Word k (2 ^ LANES - 1) 1
all_ones {k} low = record { small = omega arith; bit = bit_at_ones LANES k low }

pub no_ones : {k : ℕ} → Word k 0 0
no_ones {k} = record { small = omega arith; bit = bit_at-zero k }

pub low_word : (p : Planes) (k : ℕ) → Word k p.low (bit_at p.low k)
low_word p k = record { small = p.low_small; bit = refl }

pub high_word : (p : Planes) (k : ℕ) → Word k p.high (bit_at p.high k)
high_word p k = record { small = p.high_small; bit = refl }
