use Rattle.logic_four.proofs.lemmas.PackedLemmas.{codes_of_filled}
use Rattle.logic_four.proofs.packed.filled.Goals as goal

pub returns : goal.returns
returns c = rw c.code.ensures (codes_of_filled c.args.v)
