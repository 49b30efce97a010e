use Rattle.std.proofs.Common.{◌-◌, refl}
use Rattle.std.specs.Prelude.{min, max}
use Rattle.logic_four.specs.Gates.{tri_value}
use Rattle.lane_planes.proofs.lemmas.LaneLemmas.{bits}
use Rattle.wide_planes.specs.Lanes.{lane_of}
use Rattle.wide_planes.proofs.LaneLemmas.{in_lanes}
use Rattle.wide_planes.proofs.pairs.tri_two.Goals as goal

pub returns : goal.returns
unfolding lane_of
returns c = λ k here. rw (c.or-2.ensures k here, c.inverse-off.ensures k here, c.or.ensures k here, c.and-one.ensures k here, c.inverse.ensures k here, c.without-lets.ensures k here, c.without-on.ensures k here)
    (in_lanes c.args.enable c.args.driven k (λ x y z w. bits (max (1 - max x y) (min (min (min x (1 - y)) (1 - w)) z)) (1 - min (min x (1 - y)) (1 - w))) (tri_value) refl)
