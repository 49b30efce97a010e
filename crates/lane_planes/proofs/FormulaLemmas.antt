-- The formula for two operands answers as the gates do.
use Rattle.std.proofs.Common.{◌≡◌, ℕ, ◌+◌, ◌-◌, ◌%◌, ◌<◌, bit_and, bit_or, Bool, true, false, ◌&&◌, if◌then◌else◌, [], ◌∷◌, refl, sym, subst, arith}
use Rattle.std.specs.{Prelude.min, Prelude.max, Int.bit_at, Int.RustNames.bit_xor}
use Rattle.limits.specs.declared.TheConstants.{LANES}
use Rattle.logic_four.specs.declared.Kind.TheVariants.{And, Nand, Or, Nor, Xor, Xnor, Not, Buf, Tri, Bus}
use Rattle.logic_four.specs.{declared.V4.V4, declared.Kind.Kind, Gates.gate_value}
use Rattle.logic_four.proofs.lemmas.TestLemmas.{same}
use Rattle.lane_planes.specs.Formula.{turns_operands, turns_answer, is_parity, mask_of}
use Rattle.lane_planes.specs.{declared.planes.Planes.Planes, Lanes.lane_of, code.Formula.is_usual}
use Rattle.lane_planes.proofs.WordLemmas.{Word, low_word, high_word, both, either, differ, apart, all_ones, no_ones}
use Rattle.lane_planes.proofs.lemmas.LaneLemmas.{bits, for_both, in_lanes}

-- what each kind passes this one passes
at_kind : (test : Kind → Bool) (kind : Kind)
    → (test And && (test Nand && (test Or && (test Nor && (test Xor && (test Xnor && (test Not && (test Buf && (test Tri && test Bus))))))))) ≡ true
    → test kind ≡ true
at_kind test kind all = grind arith

-- the gate of two operands
abbrev gate_pair : Kind → V4 → V4 → V4
gate_pair kind v w = gate_value kind (v ∷ w ∷ [])

-- a mask, and its bit in every lane
abbrev bit_of : Bool → ℕ
bit_of all = if all then 1 else 0

pub mask_word : {k : ℕ} (all : Bool) (mask : ℕ) → k < LANES → mask ≡ mask_of all → Word k mask (bit_of all)
mask_word {k} all mask low is = subst (λ n. Word k n (bit_of all)) (sym is) (by_test all) where
  by_test : (all : Bool) → Word k (mask_of all) (bit_of all)
  by_test true = all_ones low
  by_test false = no_ones

-- the bits of a lane of the formula's answer: those of the masks are m, n and r, those of the operands x and y, z and w
abbrev high_bit : ℕ → ℕ → ℕ → ℕ → ℕ → ℕ → ℕ
high_bit m r x y z w = min (max y w) (max (min (max ((x + m) % 2) y) (max ((z + m) % 2) w)) r)

abbrev low_bit : ℕ → ℕ → ℕ → ℕ → ℕ → ℕ → ℕ → ℕ
low_bit m n r x y z w = min (((min ((x + m) % 2) (max ((z + m) % 2) r) + min ((z + m) % 2) r) % 2 + n) % 2) (1 - high_bit m r x y z w)

abbrev lane_bits : ℕ → ℕ → ℕ → ℕ → ℕ → ℕ → ℕ → V4
lane_bits m n r x y z w = bits (low_bit m n r x y z w) (high_bit m r x y z w)

-- it answers as the kind for each choice of the operands' bits
abbrev agrees : Kind → Bool
agrees kind = for_both (λ x. for_both (λ y. for_both (λ z. for_both (λ w.
    same (lane_bits (bit_of (turns_operands kind)) (bit_of (turns_answer kind)) (bit_of (is_parity kind)) x y z w) (gate_pair kind (bits x y) (bits z w))))))

pub pair_bits : (kind : Kind) (p q : Planes) (k : ℕ) → is_usual kind ≡ true
    → lane_bits (bit_of (turns_operands kind)) (bit_of (turns_answer kind)) (bit_of (is_parity kind)) (bit_at p.low k) (bit_at p.high k) (bit_at q.low k) (bit_at q.high k)
    ≡ gate_value kind (lane_of p k ∷ lane_of q k ∷ [])
pair_bits kind p q k usual =
    in_lanes p q k (lane_bits (bit_of (turns_operands kind)) (bit_of (turns_answer kind)) (bit_of (is_parity kind))) (gate_pair kind)
    (rw usual at (at_kind (λ kind. if is_usual kind then agrees kind else true) kind refl))

-- the words that the formula makes, by the bits of the masks
module _ {k m n r : ℕ} (low : k < LANES) (p q : Planes) (operands answer parity : ℕ)
    (m_is : Word k operands m) (n_is : Word k answer n) (r_is : Word k parity r) where
  one_word : Word k (bit_xor p.low operands) ((bit_at p.low k + m) % 2)
  one_word = differ (low_word p k) m_is

  other_word : Word k (bit_xor q.low operands) ((bit_at q.low k + m) % 2)
  other_word = differ (low_word q k) m_is

  abbrev pub high_of : ℕ
  high_of = bit_and (bit_or p.high q.high) (bit_or (bit_and (bit_or (bit_xor p.low operands) p.high) (bit_or (bit_xor q.low operands) q.high)) parity)

  abbrev pub low_of : ℕ
  low_of =
      bit_and (bit_xor (bit_xor (bit_and (bit_xor p.low operands) (bit_or (bit_xor q.low operands) parity)) (bit_and (bit_xor q.low operands) parity)) answer)
      (4294967295 - high_of)

  pub pair_high : Word k high_of (high_bit m r (bit_at p.low k) (bit_at p.high k) (bit_at q.low k) (bit_at q.high k))
  pair_high =
      both (either (high_word p k) (high_word q k))
      (either (both (either one_word (high_word p k)) (either other_word (high_word q k))) r_is)

  pub pair_low : Word k low_of (low_bit m n r (bit_at p.low k) (bit_at p.high k) (bit_at q.low k) (bit_at q.high k))
  pair_low =
      apart low (differ (differ (both one_word (either other_word r_is)) (both other_word r_is)) n_is) pair_high
