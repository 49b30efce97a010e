use Rattle.std.proofs.Common.{◌-◌, ◌∷◌, [], refl}
use Rattle.std.specs.Prelude.{min, max}
use Rattle.logic_four.specs.Gates.{or_value}
use Rattle.lane_planes.proofs.lemmas.LaneLemmas.{bits}
use Rattle.wide_planes.specs.Lanes.{lane_of}
use Rattle.wide_planes.proofs.LaneLemmas.{in_lanes}
use Rattle.wide_planes.proofs.pairs.or_two.Goals as goal

pub returns : goal.returns
unfolding lane_of
returns c = λ k here. rw (c.without.ensures k here, c.or-one.ensures k here, c.without-first.ensures k here, c.without-second.ensures k here, c.or-unknown.ensures k here)
    (in_lanes c.args.p c.args.q k (λ x y z w. bits (max (min x (1 - y)) (min z (1 - w))) (min (max y w) (1 - max (min x (1 - y)) (min z (1 - w))))) (λ v w. or_value (v ∷ w ∷ [])) refl)
