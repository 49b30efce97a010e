use Rattle.std.proofs.Common.{◌<◌, ◌+◌, ◌%◌, ◌∙◌, refl, arith}
use Rattle.std.specs.Prelude.{min, max, ◌∷◌, []}
use Rattle.limits.specs.declared.TheConstants.{LANES}
use Rattle.logic_four.specs.Gates.{bus_value}
use Rattle.lane_planes.proofs.WordLemmas.{low_word, high_word, both, either, differ}
use Rattle.lane_planes.proofs.lemmas.LaneLemmas.{bits, lane_is, in_lanes}
use Rattle.lane_planes.proofs.pairs.bus_two.Goals as goal

pub invariant_of-result : goal.invariant_of-result
invariant_of-result c =
    let here : 0 < LANES = omega arith in
    record { low_small = (both (low_word c.args.p 0) (low_word c.args.q 0)).small; high_small = (differ (both (low_word c.args.p 0) (low_word c.args.q 0)) (either (differ (low_word c.args.p 0) (high_word c.args.p 0)) (differ (low_word c.args.q 0) (high_word c.args.q 0)))).small }

pub returns : goal.returns
returns c = λ k here.
    lane_is _ (both (low_word c.args.p k) (low_word c.args.q k)) (differ (both (low_word c.args.p k) (low_word c.args.q k)) (either (differ (low_word c.args.p k) (high_word c.args.p k)) (differ (low_word c.args.q k) (high_word c.args.q k))))
    ∙ in_lanes c.args.p c.args.q k (λ x y z w. bits (min x z) ((min x z + max ((x + y) % 2) ((z + w) % 2)) % 2)) (λ v w. bus_value (v ∷ w ∷ [])) refl
