use Rattle.wide_planes.specs.Lanes.{bit_of}
use Rattle.wide_planes.proofs.WordLemmas.{all_same}
use Rattle.wide_planes.proofs.planes.Words.all.Goals as goal

pub returns : goal.returns
unfolding bit_of
returns c = λ k here. all_same c.args.bit k c.requires here
