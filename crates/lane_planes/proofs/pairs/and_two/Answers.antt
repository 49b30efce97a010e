use Rattle.std.proofs.Common.{◌<◌, ◌-◌, ◌∙◌, refl, arith}
use Rattle.std.specs.Prelude.{min, max, ◌∷◌, []}
use Rattle.limits.specs.declared.TheConstants.{LANES}
use Rattle.logic_four.specs.Gates.{and_value}
use Rattle.lane_planes.proofs.WordLemmas.{low_word, high_word, both, either, apart}
use Rattle.lane_planes.proofs.lemmas.LaneLemmas.{bits, lane_is, in_lanes}
use Rattle.lane_planes.proofs.pairs.and_two.Goals as goal

pub invariant_of-result : goal.invariant_of-result
invariant_of-result c =
    let here : 0 < LANES = omega arith in
    record { low_small = (apart here (both (low_word c.args.p 0) (low_word c.args.q 0)) (either (high_word c.args.p 0) (high_word c.args.q 0))).small; high_small = (apart here (both (either (low_word c.args.p 0) (high_word c.args.p 0)) (either (low_word c.args.q 0) (high_word c.args.q 0))) (apart here (both (low_word c.args.p 0) (low_word c.args.q 0)) (either (high_word c.args.p 0) (high_word c.args.q 0)))).small }

pub returns : goal.returns
returns c = λ k here.
    lane_is _ (apart here (both (low_word c.args.p k) (low_word c.args.q k)) (either (high_word c.args.p k) (high_word c.args.q k))) (apart here (both (either (low_word c.args.p k) (high_word c.args.p k)) (either (low_word c.args.q k) (high_word c.args.q k))) (apart here (both (low_word c.args.p k) (low_word c.args.q k)) (either (high_word c.args.p k) (high_word c.args.q k))))
    ∙ in_lanes c.args.p c.args.q k (λ x y z w. bits (min (min x z) (1 - max y w)) (min (min (max x y) (max z w)) (1 - min (min x z) (1 - max y w)))) (λ v w. and_value (v ∷ w ∷ [])) refl
