use Rattle.std.proofs.Common.{◌-◌, refl}
use Rattle.std.specs.Prelude.{min, max}
use Rattle.lane_planes.specs.Lanes.{forced_value}
use Rattle.lane_planes.proofs.lemmas.LaneLemmas.{bits}
use Rattle.wide_planes.specs.Lanes.{lane_of}
use Rattle.wide_planes.proofs.LaneLemmas.{in_lanes}
use Rattle.wide_planes.proofs.pairs.forced.Goals as goal

pub returns : goal.returns
unfolding lane_of
returns c = λ k here. rw (c.or.ensures k here, c.and-kept.ensures k here, c.without-given.ensures k here, c.and.ensures k here)
    (in_lanes c.args.p c.args.force k (λ x y z w. bits (max (min x w) (min z (1 - w))) (min y w)) (forced_value) refl)
