use Rattle.std.proofs.Common.{◌<◌, ◌-◌, ◌∙◌, refl, arith}
use Rattle.std.specs.Prelude.{min, max}
use Rattle.limits.specs.declared.TheConstants.{LANES}
use Rattle.lane_planes.specs.Lanes.{forced_value}
use Rattle.lane_planes.proofs.WordLemmas.{low_word, high_word, both, either, apart}
use Rattle.lane_planes.proofs.lemmas.LaneLemmas.{bits, lane_is, in_lanes}
use Rattle.lane_planes.proofs.pairs.forced.Goals as goal

pub invariant_of-result : goal.invariant_of-result
invariant_of-result c =
    let here : 0 < LANES = omega arith in
    record {
      low_small = (either (both (low_word c.args.p 0) (high_word c.args.force 0)) (apart here (low_word c.args.force 0) (high_word c.args.force 0))).small;
      high_small = (both (high_word c.args.p 0) (high_word c.args.force 0)).small;
    }

pub returns : goal.returns
returns c = λ k here.
    lane_is _ (either (both (low_word c.args.p k) (high_word c.args.force k)) (apart here (low_word c.args.force k) (high_word c.args.force k)))
    (both (high_word c.args.p k) (high_word c.args.force k))
    ∙ in_lanes c.args.p c.args.force k (λ x y z w. bits (max (min x w) (min z (1 - w))) (min y w)) forced_value refl
