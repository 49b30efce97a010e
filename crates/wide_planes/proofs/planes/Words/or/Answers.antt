use Rattle.std.proofs.{Common.bit_or, lemmas.Nat.Bits.bit_at_or}
use Rattle.std.specs.Prelude.{max}
use Rattle.wide_planes.specs.Lanes.{bit_of}
use Rattle.wide_planes.proofs.WordLemmas.{zipped, zipped_long}
use Rattle.wide_planes.proofs.planes.Words.or.Goals as goal

pub invariant_of-result : goal.invariant_of-result
invariant_of-result c = record { long = zipped_long bit_or max c.args.self.words c.args.other.words c.args.self.long c.args.other.long }

pub returns : goal.returns
unfolding bit_of
returns c = λ k here. zipped bit_or max c.args.self.words c.args.other.words c.args.self.long c.args.other.long bit_at_or k here
