use Rattle.std.proofs.Common.{◌-◌, refl}
use Rattle.std.specs.Prelude.{min}
use Rattle.logic_four.specs.Values.{settled}
use Rattle.lane_planes.proofs.lemmas.LaneLemmas.{bits}
use Rattle.wide_planes.specs.Lanes.{lane_of}
use Rattle.wide_planes.proofs.LaneLemmas.{in_lane}
use Rattle.wide_planes.proofs.pairs.settle_planes.Goals as goal

pub returns : goal.returns
unfolding lane_of
returns c = λ k here. rw (c.without.ensures k here)
    (in_lane c.args.p k (λ x y. bits (min x (1 - y)) y) (settled) refl)
