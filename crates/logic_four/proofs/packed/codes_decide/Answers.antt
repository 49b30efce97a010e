use Rattle.std.proofs.Common.{arith}
use Rattle.logic_four.proofs.lemmas.PackedLemmas.{same_from_codes}
use Rattle.logic_four.proofs.packed.codes_decide.Goals as goal

pub returns : goal.returns
returns c = same_from_codes 32 c.args.word c.args.other (omega arith) (omega arith)
