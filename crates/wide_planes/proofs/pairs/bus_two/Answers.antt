use Rattle.std.proofs.Common.{◌+◌, ◌%◌, ◌∷◌, [], refl}
use Rattle.std.specs.Prelude.{min, max}
use Rattle.logic_four.specs.Gates.{bus_value}
use Rattle.lane_planes.proofs.lemmas.LaneLemmas.{bits}
use Rattle.wide_planes.specs.Lanes.{lane_of}
use Rattle.wide_planes.proofs.LaneLemmas.{in_lanes}
use Rattle.wide_planes.proofs.pairs.bus_two.Goals as goal

pub returns : goal.returns
unfolding lane_of
returns c = λ k here. rw (c.xor.ensures k here, c.and-both.ensures k here, c.or-driven.ensures k here, c.xor-first.ensures k here, c.xor-second.ensures k here)
    (in_lanes c.args.p c.args.q k (λ x y z w. bits (min x z) ((min x z + max ((x + y) % 2) ((z + w) % 2)) % 2)) (λ v w. bus_value (v ∷ w ∷ [])) refl)
