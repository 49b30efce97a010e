use Rattle.std.proofs.{Common.◌+◌, Common.◌%◌, lemmas.Nat.Bits.bit_at_xor}
use Rattle.std.specs.Int.RustNames.{bit_xor}
use Rattle.wide_planes.specs.Lanes.{bit_of}
use Rattle.wide_planes.proofs.WordLemmas.{zipped, zipped_long}
use Rattle.wide_planes.proofs.planes.Words.xor.Goals as goal

pub invariant_of-result : goal.invariant_of-result
invariant_of-result c = record { long = zipped_long bit_xor (λ x y. (x + y) % 2) c.args.self.words c.args.other.words c.args.self.long c.args.other.long }

pub returns : goal.returns
unfolding bit_of
returns c = λ k here. zipped bit_xor (λ x y. (x + y) % 2) c.args.self.words c.args.other.words c.args.self.long c.args.other.long bit_at_xor k here
