use Rattle.std.proofs.lemmas.Nat.Bits.{shr_and_one}
use Rattle.wide_planes.specs.Lanes.{bit_of}
use Rattle.wide_planes.proofs.planes.Words.bit.Goals as goal

pub returns : goal.returns
unfolding bit_of
returns c = shr_and_one _ _
