use Rattle.std.proofs.Common.{◌<◌, ◌+◌, ◌-◌, ◌%◌, ◌∙◌, refl, arith}
use Rattle.std.specs.Prelude.{min, max, ◌∷◌, []}
use Rattle.limits.specs.declared.TheConstants.{LANES}
use Rattle.logic_four.specs.Gates.{xor_value}
use Rattle.lane_planes.proofs.WordLemmas.{low_word, high_word, either, differ, apart}
use Rattle.lane_planes.proofs.lemmas.LaneLemmas.{bits, lane_is, in_lanes}
use Rattle.lane_planes.proofs.pairs.xor_two.Goals as goal

pub invariant_of-result : goal.invariant_of-result
invariant_of-result c =
    let here : 0 < LANES = omega arith in
    record { low_small = (apart here (differ (low_word c.args.p 0) (low_word c.args.q 0)) (either (high_word c.args.p 0) (high_word c.args.q 0))).small; high_small = (either (high_word c.args.p 0) (high_word c.args.q 0)).small }

pub returns : goal.returns
returns c = λ k here.
    lane_is _ (apart here (differ (low_word c.args.p k) (low_word c.args.q k)) (either (high_word c.args.p k) (high_word c.args.q k))) (either (high_word c.args.p k) (high_word c.args.q k))
    ∙ in_lanes c.args.p c.args.q k (λ x y z w. bits (min ((x + z) % 2) (1 - max y w)) (max y w)) (λ v w. xor_value (v ∷ w ∷ [])) refl
