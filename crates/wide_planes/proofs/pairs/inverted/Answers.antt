use Rattle.std.proofs.Common.{◌-◌, refl}
use Rattle.std.specs.Prelude.{max}
use Rattle.logic_four.specs.Values.{inverse}
use Rattle.lane_planes.proofs.lemmas.LaneLemmas.{bits}
use Rattle.wide_planes.specs.Lanes.{lane_of}
use Rattle.wide_planes.proofs.LaneLemmas.{in_lane}
use Rattle.wide_planes.proofs.pairs.inverted.Goals as goal

pub returns : goal.returns
unfolding lane_of
returns c = λ k here. rw (c.inverse.ensures k here, c.or.ensures k here)
    (in_lane c.args.p k (λ x y. bits (1 - max x y) y) (inverse) refl)
