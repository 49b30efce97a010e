use Rattle.std.proofs.Common.{◌<◌}
use Rattle.image_check.proofs.lemmas.EachLemmas.{EachBelow}
use Rattle.image_check.proofs.works.are_inputs.Given as goal

abbrev pub invariant-inputs : goal.invariant-inputs
invariant-inputs l = EachBelow (λ input. input.column < l.columns) l.k l.inputs
