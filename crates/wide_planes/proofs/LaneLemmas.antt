-- A claim on the lanes of wide planes holds where it holds for every choice of their bits.
use Rattle.std.proofs.Common.{◌≡◌, ◌∙◌, ℕ, ◌+◌, ◌*◌, ◌/◌, ◌%◌, ◌<◌, true, eqb, eqb-true, ap, ap₂, arith}
use Rattle.std.proofs.lemmas.Nat.Bits.{bit_at-lt}
use Rattle.logic_four.specs.{declared.V4.V4, Values.code_of, Values.value_of}
use Rattle.logic_four.proofs.lemmas.TestLemmas.{same}
use Rattle.lane_planes.proofs.lemmas.LaneLemmas.{bits, for_both, at_bit, of_bits, of_two_bits}
use Rattle.lane_planes.proofs.lemmas.BitLemmas.{value_of_bits}
use Rattle.wide_planes.specs.{declared.planes.Words.Words, declared.planes.Wide.Wide, Lanes.bit_of, Lanes.lane_of}

few : (w : Words) (k : ℕ) → bit_of w k < 2
unfolding bit_of
few w k = bit_at-lt _ _

-- the bits of a lane, read as a code
pub lane_read : (p : Wide) (k : ℕ) → value_of ((bit_of p.low k + 2 * bit_of p.high k) % 4) ≡ lane_of p k
unfolding lane_of
lane_read p k =
    let small : (bit_of p.low k + 2 * bit_of p.high k) % 4 ≡ bit_of p.low k + 2 * bit_of p.high k = omega (arith, few p.low k, few p.high k) in
    ap value_of small

-- planes whose bits at a lane are those of a code have its value there
pub lane_put : (p : Wide) (k : ℕ) (v : V4) → bit_of p.low k ≡ code_of v % 2 → bit_of p.high k ≡ code_of v / 2 → lane_of p k ≡ v
unfolding lane_of
lane_put p k v low high = ap₂ bits low high ∙ value_of_bits v

pub lane_kept : (p q : Wide) (k : ℕ) → bit_of p.low k ≡ bit_of q.low k → bit_of p.high k ≡ bit_of q.high k → lane_of p k ≡ lane_of q k
unfolding lane_of
lane_kept p q k low high = ap₂ bits low high

-- of one lane, and of a lane of two planes
pub in_lane : (p : Wide) (k : ℕ) (f : ℕ → ℕ → V4) (g : V4 → V4)
    → for_both (λ x. for_both (λ y. same (f x y) (g (bits x y)))) ≡ true
    → f (bit_of p.low k) (bit_of p.high k) ≡ g (lane_of p k)
unfolding lane_of
in_lane p k f g = of_bits f g (bit_of p.low k) (bit_of p.high k) (few p.low k) (few p.high k)

pub in_lanes : (p q : Wide) (k : ℕ) (f : ℕ → ℕ → ℕ → ℕ → V4) (g : V4 → V4 → V4)
    → for_both (λ x. for_both (λ y. for_both (λ z. for_both (λ w. same (f x y z w) (g (bits x y) (bits z w)))))) ≡ true
    → f (bit_of p.low k) (bit_of p.high k) (bit_of q.low k) (bit_of q.high k) ≡ g (lane_of p k) (lane_of q k)
unfolding lane_of
in_lanes p q k f g =
    of_two_bits f g (bit_of p.low k) (bit_of p.high k) (bit_of q.low k) (bit_of q.high k) (few p.low k) (few p.high k) (few q.low k) (few q.high k)

-- the same of a number
pub number_in_lanes : (p q : Wide) (k : ℕ) (f : ℕ → ℕ → ℕ → ℕ → ℕ) (g : V4 → V4 → ℕ)
    → for_both (λ x. for_both (λ y. for_both (λ z. for_both (λ w. eqb (f x y z w) (g (bits x y) (bits z w)))))) ≡ true
    → f (bit_of p.low k) (bit_of p.high k) (bit_of q.low k) (bit_of q.high k) ≡ g (lane_of p k) (lane_of q k)
unfolding lane_of
number_in_lanes p q k f g test =
    let x = bit_of p.low k in
    let y = bit_of p.high k in
    let z = bit_of q.low k in
    let w = bit_of q.high k in
    eqb-true (f x y z w) (g (bits x y) (bits z w))
    (at_bit (λ w. eqb (f x y z w) (g (bits x y) (bits z w))) w (few q.high k)
    (at_bit (λ z. for_both (λ w. eqb (f x y z w) (g (bits x y) (bits z w)))) z (few q.low k)
    (at_bit (λ y. for_both (λ z. for_both (λ w. eqb (f x y z w) (g (bits x y) (bits z w))))) y (few p.high k)
    (at_bit (λ x. for_both (λ y. for_both (λ z. for_both (λ w. eqb (f x y z w) (g (bits x y) (bits z w)))))) x (few p.low k) test))))
