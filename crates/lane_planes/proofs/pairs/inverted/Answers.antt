use Rattle.std.proofs.Common.{◌-◌, ◌∙◌, refl}
use Rattle.std.specs.Prelude.{min, max}
use Rattle.logic_four.specs.Values.{inverse}
use Rattle.lane_planes.proofs.WordLemmas.{low_word, high_word, either, apart, all_ones}
use Rattle.lane_planes.proofs.lemmas.LaneLemmas.{bits, lane_is, in_lane}
use Rattle.lane_planes.proofs.pairs.inverted.Goals as goal

pub returns : goal.returns
returns c = λ k here.
    let low = low_word c.args.p k in
    let high = high_word c.args.p k in
    lane_is _ (apart here (all_ones here) (either low high)) high
    ∙ in_lane c.args.p k (λ x y. bits (min 1 (1 - max x y)) y) inverse refl
