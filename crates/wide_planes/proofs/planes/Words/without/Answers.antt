use Rattle.std.proofs.Common.{◌∙◌, ap}
use Rattle.std.specs.Prelude.{min}
use Rattle.wide_planes.specs.Lanes.{bit_of}
use Rattle.wide_planes.proofs.planes.Words.without.Goals as goal

pub returns : goal.returns
returns c = λ k here. c.and.ensures k here ∙ ap (min (bit_of c.args.self k)) (c.inverse.ensures k here)
