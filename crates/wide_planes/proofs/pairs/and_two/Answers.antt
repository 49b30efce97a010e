use Rattle.std.proofs.Common.{◌-◌, ◌∷◌, [], refl}
use Rattle.std.specs.Prelude.{min, max}
use Rattle.logic_four.specs.Gates.{and_value}
use Rattle.lane_planes.proofs.lemmas.LaneLemmas.{bits}
use Rattle.wide_planes.specs.Lanes.{lane_of}
use Rattle.wide_planes.proofs.LaneLemmas.{in_lanes}
use Rattle.wide_planes.proofs.pairs.and_two.Goals as goal

pub returns : goal.returns
unfolding lane_of
returns c = λ k here. rw (c.without.ensures k here, c.without-one.ensures k here, c.and-both.ensures k here, c.or-unknown.ensures k here, c.and-some.ensures k here, c.or-first.ensures k here, c.or-second.ensures k here)
    (in_lanes c.args.p c.args.q k (λ x y z w. bits (min (min x z) (1 - max y w)) (min (min (max x y) (max z w)) (1 - min (min x z) (1 - max y w)))) (λ v w. and_value (v ∷ w ∷ [])) refl)
