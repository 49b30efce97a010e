-- A claim on the lanes of planes holds where it holds for every choice of their bits.
use Rattle.std.proofs.Common.{◌≡◌, ◌∙◌, ℕ, zero, suc, ◌+◌, ◌*◌, ◌/◌, ◌%◌, ◌^◌, ◌<◌, bit_and, Bool, true, ◌&&◌, inl, inr, ap, ap₂, subst, arith}
use Rattle.std.proofs.{lemmas.Nat.Bits.bit_at-lt, lemmas.Nat.Bits.shr_and_one, lemmas.Nat.Bits.same_from_bits_below, Math.Bridge.le_prop, lemmas.Bool.and_parts}
use Rattle.std.proofs.lemmas.Bool.Decides.{eqb_tells}
use Rattle.std.specs.{Prelude.◌≢◌, Int.bit_at}
use Rattle.limits.specs.declared.TheConstants.{LANES}
use Rattle.logic_four.specs.{declared.V4.V4, Values.value_of, Values.code_of}
use Rattle.logic_four.proofs.lemmas.{PackedLemmas.code_from_value, TestLemmas.same, TestLemmas.same_true}
use Rattle.lane_planes.specs.{declared.planes.Planes.Planes, Lanes.lane_of, Lanes.AreAlike}
use Rattle.lane_planes.proofs.{lemmas.BitLemmas.value_of_bits, WordLemmas.Word}

-- the value of two bits
abbrev pub bits : ℕ → ℕ → V4
bits x y = value_of (x + 2 * y)

-- planes whose words have these bits at a lane have the value of the bits there
pub lane_is : (p : Planes) {k x y : ℕ} → Word k p.low x → Word k p.high y → lane_of p k ≡ bits x y
unfolding lane_of
lane_is p low high = ap₂ bits low.bit high.bit

-- planes whose bits at a lane are those of a code have its value there
pub lane_put : (p : Planes) (k : ℕ) (v : V4) → bit_at p.low k ≡ code_of v % 2 → bit_at p.high k ≡ code_of v / 2 → lane_of p k ≡ v
unfolding lane_of
lane_put p k v low high = ap₂ bits low high ∙ value_of_bits v

pub lane_kept : (p q : Planes) (k : ℕ) → bit_at p.low k ≡ bit_at q.low k → bit_at p.high k ≡ bit_at q.high k → lane_of p k ≡ lane_of q k
unfolding lane_of
lane_kept p q k low high = ap₂ bits low high

-- the bits of a lane, moved down
pub lane_read : (p : Planes) (k : ℕ) → value_of ((bit_and (p.low / 2 ^ k) 1 + 2 * bit_and (p.high / 2 ^ k) 1) % 4) ≡ lane_of p k
unfolding lane_of
lane_read p k =
    let few : (bit_at p.low k + 2 * bit_at p.high k) % 4 ≡ bit_at p.low k + 2 * bit_at p.high k =
    omega (arith, bit_at-lt p.low k, bit_at-lt p.high k) in
    rw (shr_and_one p.low k, shr_and_one p.high k) (ap value_of few)

-- ---- a test of each choice of bits

abbrev pub for_both : (ℕ → Bool) → Bool
for_both test = test 0 && test 1

pub at_bit : (test : ℕ → Bool) (x : ℕ) → x < 2 → for_both test ≡ true → test x ≡ true
at_bit test zero low e = (and_parts (test 0) (test 1) e).0
at_bit test (suc zero) low e = (and_parts (test 0) (test 1) e).1
at_bit test (suc (suc x)) low e = absurd (omega (arith, low))

-- of the bits of a value, and of those of two values
pub of_bits : (f : ℕ → ℕ → V4) (g : V4 → V4) (x y : ℕ) → x < 2 → y < 2
    → for_both (λ x. for_both (λ y. same (f x y) (g (bits x y)))) ≡ true
    → f x y ≡ g (bits x y)
of_bits f g x y x_few y_few test =
    same_true (f x y) (g (bits x y))
    (at_bit (λ y. same (f x y) (g (bits x y))) y y_few
    (at_bit (λ x. for_both (λ y. same (f x y) (g (bits x y)))) x x_few test))

pub of_two_bits : (f : ℕ → ℕ → ℕ → ℕ → V4) (g : V4 → V4 → V4) (x y z w : ℕ) → x < 2 → y < 2 → z < 2 → w < 2
    → for_both (λ x. for_both (λ y. for_both (λ z. for_both (λ w. same (f x y z w) (g (bits x y) (bits z w)))))) ≡ true
    → f x y z w ≡ g (bits x y) (bits z w)
of_two_bits f g x y z w x_few y_few z_few w_few test =
    same_true (f x y z w) (g (bits x y) (bits z w))
    (at_bit (λ w. same (f x y z w) (g (bits x y) (bits z w))) w w_few
    (at_bit (λ z. for_both (λ w. same (f x y z w) (g (bits x y) (bits z w)))) z z_few
    (at_bit (λ y. for_both (λ z. for_both (λ w. same (f x y z w) (g (bits x y) (bits z w))))) y y_few
    (at_bit (λ x. for_both (λ y. for_both (λ z. for_both (λ w. same (f x y z w) (g (bits x y) (bits z w)))))) x x_few test))))

-- of one lane, and of a lane of two planes
pub in_lane : (p : Planes) (k : ℕ) (f : ℕ → ℕ → V4) (g : V4 → V4)
    → for_both (λ x. for_both (λ y. same (f x y) (g (bits x y)))) ≡ true
    → f (bit_at p.low k) (bit_at p.high k) ≡ g (lane_of p k)
unfolding lane_of
in_lane p k f g = of_bits f g (bit_at p.low k) (bit_at p.high k) (bit_at-lt p.low k) (bit_at-lt p.high k)

pub in_lanes : (p q : Planes) (k : ℕ) (f : ℕ → ℕ → ℕ → ℕ → V4) (g : V4 → V4 → V4)
    → for_both (λ x. for_both (λ y. for_both (λ z. for_both (λ w. same (f x y z w) (g (bits x y) (bits z w)))))) ≡ true
    → f (bit_at p.low k) (bit_at p.high k) (bit_at q.low k) (bit_at q.high k) ≡ g (lane_of p k) (lane_of q k)
unfolding lane_of
in_lanes p q k f g =
    of_two_bits f g (bit_at p.low k) (bit_at p.high k) (bit_at q.low k) (bit_at q.high k) (bit_at-lt p.low k) (bit_at-lt p.high k) (bit_at-lt q.low k)
    (bit_at-lt q.high k)

-- ---- planes are their values

same_bits : (x y z w : ℕ) → x < 2 → y < 2 → z < 2 → w < 2 → bits x y ≡ bits z w → (x ≡ z) × (y ≡ w)
same_bits x y z w h i j m e =
    let code : x + 2 * y ≡ z + 2 * w = code_from_value (x + 2 * y) (z + 2 * w) (omega arith) (omega arith) e in
    (omega arith, omega arith)

-- planes with the same words
abbrev made : (a b : ℕ) → a < 2 ^ LANES → b < 2 ^ LANES → Planes
made a b h i = record { low = a; high = b; low_small = h; high_small = i }

same_made : (a b : ℕ) (h h' : a < 2 ^ LANES) (i i' : b < 2 ^ LANES) → made a b h i ≡ made a b h' i'
same_made a b h h' i i' = ap₂ (made a b) (le_prop h h') (le_prop i i')

pub same_words : (p q : Planes) → p.low ≡ q.low → p.high ≡ q.high → p ≡ q
same_words p q low high =
    subst (λ a. (h : a < 2 ^ LANES) → p ≡ made a q.high h q.high_small) low
    (λ h. subst (λ b. (i : b < 2 ^ LANES) → p ≡ made p.low b h i) high
    (λ i. same_made p.low p.high p.low_small h p.high_small i) q.high_small) q.low_small

pub same_planes : (p q : Planes) → AreAlike p q → p ≡ q
unfolding lane_of
same_planes p q alike =
    let parts : (k : ℕ) → k < LANES → (bit_at p.low k ≡ bit_at q.low k) × (bit_at p.high k ≡ bit_at q.high k) =
    λ k low.
    same_bits (bit_at p.low k) (bit_at p.high k) (bit_at q.low k) (bit_at q.high k) (bit_at-lt p.low k) (bit_at-lt p.high k) (bit_at-lt q.low k) (bit_at-lt q.high k)
    (alike k low) in
    same_words p q (same_from_bits_below LANES p.low q.low p.low_small q.low_small (λ k low. (parts k low).0))
    (same_from_bits_below LANES p.high q.high p.high_small q.high_small (λ k low. (parts k low).1))

-- what holds of the lanes so far and of one more holds of all of them, where the words keep the others
pub one_more_lane : (P : ℕ → V4 → Type 0) (k low high low_on high_on : ℕ) (v : V4) → k < LANES → ((j : ℕ) → j < k → P j (bits (bit_at low j) (bit_at high j))) → P k v
    → bit_at low_on k ≡ code_of v % 2 → ((j : ℕ) → j < LANES → j ≢ k → bit_at low_on j ≡ bit_at low j)
    → bit_at high_on k ≡ code_of v / 2 → ((j : ℕ) → j < LANES → j ≢ k → bit_at high_on j ≡ bit_at high j)
    → (j : ℕ) → j < k + 1 → P j (bits (bit_at low_on j) (bit_at high_on j))
one_more_lane P k low high low_on high_on v within so_far here low_here low_others high_here high_others j below = elim (eqb_tells j k) [
  | inl same ↦ rw (same.1, low_here, high_here, value_of_bits v) here
  | inr apart ↦
      let before : j < k = omega (arith, below, apart.1) in
      let inside : j < LANES = omega (arith, before, within) in
      rw (low_others j inside apart.1, high_others j inside apart.1) (so_far j before)
]
