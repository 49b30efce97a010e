-- Packed words are few, and tell their turns where there is one bank.
use Rattle.std.proofs.Common.{ap, arith, mul-le-mul, ne_eqb, refl, ℕ, ◌%◌, ◌*◌, ◌+◌, ◌^◌, ◌∙◌, ◌≡◌, ◌≤◌}
use Rattle.std.proofs.lemmas.Bool.{eq-eqb}
use Rattle.limits.specs.declared.TheConstants.{LANES}
use Rattle.lane_planes.specs.declared.planes.Planes.{Planes}
use Rattle.stim_text.proofs.lemmas.LaneLemmas.{longest_few}
use Rattle.stim_text.specs.Lanes.{longest}
use Rattle.slot_words.specs.packed.Words.{Fits, HasPlanes, is_of, packed, stamp_in, packed_stamp_of, turns_of}
use Rattle.slot_words.specs.Feeds.{AreFew, TellsTurns}

pub packed_stamp : (turn : ℕ) (planes : Planes) → packed_stamp_of (packed turn planes) ≡ stamp_in turn
packed_stamp turn planes = let e : packed_stamp_of (packed turn planes) ≡ (turn % 16 + 16 * planes.low + 2 ^ (LANES + 4) * planes.high) % 16 = refl in omega arith

pub packed_few : AreFew Fits turns_of 1
packed_few = record {
  short = λ image lanes fits fit. let most : image.units * longest lanes ≤ 4096 * 1000000 = mul-le-mul fits.units.1 (longest_few image.columns lanes fit) in omega arith;
  banks = omega arith;
}

pub packed_tells : TellsTurns HasPlanes is_of 1
packed_tells = record {
  own = λ image lanes p slot k n has. eq-eqb (packed_stamp_of n) (stamp_in k) (ap packed_stamp_of has.is ∙ packed_stamp k has.planes);
  apart = λ image lanes p slot j k n less near has.
      let stamp : n % 16 ≡ j % 16 = ap packed_stamp_of has.is ∙ packed_stamp j has.planes in
      ne_eqb (packed_stamp_of n) (stamp_in k) (λ same. let same' : n % 16 ≡ k % 16 = same in omega (arith, stamp, same', less, near));
  fresh = λ k first near. ne_eqb 0 (stamp_in k) (λ same. let same' : 0 ≡ k % 16 = same in omega (arith, same', first, near));
}
