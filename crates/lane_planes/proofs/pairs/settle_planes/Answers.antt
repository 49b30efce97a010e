use Rattle.std.proofs.Common.{◌-◌, ◌∙◌, refl}
use Rattle.std.specs.Prelude.{min}
use Rattle.logic_four.specs.Values.{settled}
use Rattle.lane_planes.proofs.WordLemmas.{low_word, high_word, apart}
use Rattle.lane_planes.proofs.lemmas.LaneLemmas.{bits, lane_is, in_lane}
use Rattle.lane_planes.proofs.pairs.settle_planes.Goals as goal

pub returns : goal.returns
returns c = λ k here.
    let low = low_word c.args.p k in
    let high = high_word c.args.p k in
    lane_is _ (apart here low high) high ∙ in_lane c.args.p k (λ x y. bits (min x (1 - y)) y) settled refl
