use Rattle.std.proofs.Common.{◌<◌, ◌-◌, ◌∙◌, refl, arith}
use Rattle.std.specs.Prelude.{min, max, ◌∷◌, []}
use Rattle.limits.specs.declared.TheConstants.{LANES}
use Rattle.logic_four.specs.Gates.{or_value}
use Rattle.lane_planes.proofs.WordLemmas.{low_word, high_word, either, apart}
use Rattle.lane_planes.proofs.lemmas.LaneLemmas.{bits, lane_is, in_lanes}
use Rattle.lane_planes.proofs.pairs.or_two.Goals as goal

pub invariant_of-result : goal.invariant_of-result
invariant_of-result c =
    let here : 0 < LANES = omega arith in
    record { low_small = (either (apart here (low_word c.args.p 0) (high_word c.args.p 0)) (apart here (low_word c.args.q 0) (high_word c.args.q 0))).small; high_small = (apart here (either (either (low_word c.args.p 0) (high_word c.args.p 0)) (either (low_word c.args.q 0) (high_word c.args.q 0))) (either (apart here (low_word c.args.p 0) (high_word c.args.p 0)) (apart here (low_word c.args.q 0) (high_word c.args.q 0)))).small }

pub returns : goal.returns
returns c = λ k here.
    lane_is _ (either (apart here (low_word c.args.p k) (high_word c.args.p k)) (apart here (low_word c.args.q k) (high_word c.args.q k))) (apart here (either (either (low_word c.args.p k) (high_word c.args.p k)) (either (low_word c.args.q k) (high_word c.args.q k))) (either (apart here (low_word c.args.p k) (high_word c.args.p k)) (apart here (low_word c.args.q k) (high_word c.args.q k))))
    ∙ in_lanes c.args.p c.args.q k (λ x y z w. bits (max (min x (1 - y)) (min z (1 - w))) (min (max (max x y) (max z w)) (1 - max (min x (1 - y)) (min z (1 - w))))) (λ v w. or_value (v ∷ w ∷ [])) refl
