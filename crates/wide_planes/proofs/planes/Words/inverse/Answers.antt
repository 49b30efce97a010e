use Rattle.std.proofs.Common.{◌≡◌, ◌∙◌, ℕ, ◌+◌, ◌*◌, ◌-◌, ◌%◌, ◌<◌, ap, arith, refl}
use Rattle.std.proofs.lemmas.Nat.Bits.{bit_at_xor, bit_at-lt}
use Rattle.std.specs.{Prelude.replicate, Int.RustNames.bit_xor}
use Rattle.wide_planes.specs.Lanes.{bit_of}
use Rattle.wide_planes.proofs.WordLemmas.{zipped, zipped_long, all_same, wide_bit}
use Rattle.wide_planes.proofs.planes.Words.inverse.Goals as goal

turned : (x : ℕ) → x < 2 → (x + 1) % 2 ≡ 1 - x
turned x few = omega (arith, few)

pub invariant_of-result : goal.invariant_of-result
invariant_of-result c = record { long = zipped_long bit_xor (λ x y. (x + y) % 2) c.args.self.words (replicate 8 (1 * 4294967295)) c.args.self.long refl }

pub returns : goal.returns
unfolding bit_of
returns c = λ k here.
    zipped bit_xor (λ x y. (x + y) % 2) c.args.self.words (replicate 8 (1 * 4294967295)) c.args.self.long refl bit_at_xor k here
    ∙ (ap (λ y. (wide_bit c.args.self.words k + y) % 2) (all_same 1 k (omega arith) here)
    ∙ turned (wide_bit c.args.self.words k) (bit_at-lt _ _))
