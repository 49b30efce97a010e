use Rattle.std.proofs.Common.{◌+◌, ◌-◌, ◌%◌, ◌∷◌, [], refl}
use Rattle.std.specs.Prelude.{min, max}
use Rattle.logic_four.specs.Gates.{xor_value}
use Rattle.lane_planes.proofs.lemmas.LaneLemmas.{bits}
use Rattle.wide_planes.specs.Lanes.{lane_of}
use Rattle.wide_planes.proofs.LaneLemmas.{in_lanes}
use Rattle.wide_planes.proofs.pairs.xor_two.Goals as goal

pub returns : goal.returns
unfolding lane_of
returns c = λ k here. rw (c.without.ensures k here, c.xor-differ.ensures k here, c.or-unknown.ensures k here)
    (in_lanes c.args.p c.args.q k (λ x y z w. bits (min ((x + z) % 2) (1 - max y w)) (max y w)) (λ v w. xor_value (v ∷ w ∷ [])) refl)
