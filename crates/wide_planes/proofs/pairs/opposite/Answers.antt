use Rattle.std.proofs.Common.{◌+◌, ◌-◌, ◌%◌, refl}
use Rattle.std.specs.Prelude.{min, max}
use Rattle.wide_planes.specs.Lanes.{opposite}
use Rattle.wide_planes.proofs.LaneLemmas.{number_in_lanes}
use Rattle.wide_planes.proofs.pairs.opposite.Goals as goal

pub returns : goal.returns
returns c = λ k here.
    rw (c.without.ensures k here, c.xor-differ.ensures k here, c.or-unknown.ensures k here)
    (number_in_lanes c.args.p c.args.q k (λ x y z w. min ((x + z) % 2) (1 - max y w)) opposite refl)
