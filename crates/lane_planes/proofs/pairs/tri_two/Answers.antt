use Rattle.std.proofs.Common.{◌<◌, ◌-◌, ◌∙◌, refl, arith}
use Rattle.std.specs.Prelude.{min, max}
use Rattle.limits.specs.declared.TheConstants.{LANES}
use Rattle.logic_four.specs.Gates.{tri_value}
use Rattle.lane_planes.proofs.WordLemmas.{low_word, high_word, both, either, apart, all_ones}
use Rattle.lane_planes.proofs.lemmas.LaneLemmas.{bits, lane_is, in_lanes}
use Rattle.lane_planes.proofs.pairs.tri_two.Goals as goal

pub invariant_of-result : goal.invariant_of-result
invariant_of-result c =
    let here : 0 < LANES = omega arith in
    record { low_small = (either (apart here (all_ones here) (either (low_word c.args.enable 0) (high_word c.args.enable 0))) (apart here (both (apart here (low_word c.args.enable 0) (high_word c.args.enable 0)) (low_word c.args.driven 0)) (high_word c.args.driven 0))).small; high_small = (apart here (all_ones here) (apart here (apart here (low_word c.args.enable 0) (high_word c.args.enable 0)) (high_word c.args.driven 0))).small }

pub returns : goal.returns
returns c = λ k here.
    lane_is _ (either (apart here (all_ones here) (either (low_word c.args.enable k) (high_word c.args.enable k))) (apart here (both (apart here (low_word c.args.enable k) (high_word c.args.enable k)) (low_word c.args.driven k)) (high_word c.args.driven k))) (apart here (all_ones here) (apart here (apart here (low_word c.args.enable k) (high_word c.args.enable k)) (high_word c.args.driven k)))
    ∙ in_lanes c.args.enable c.args.driven k (λ x y z w. bits (max (min 1 (1 - max x y)) (min (min (min x (1 - y)) z) (1 - w))) (min 1 (1 - min (min x (1 - y)) (1 - w)))) (tri_value) refl
