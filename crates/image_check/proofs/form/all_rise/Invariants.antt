use Rattle.image_check.specs.code.Shapes.{IsRising}
use Rattle.image_check.proofs.lemmas.EachLemmas.{EachBelow}
use Rattle.image_check.proofs.form.all_rise.Given as goal

abbrev pub invariant-ports : goal.invariant-ports
invariant-ports l = EachBelow IsRising l.p l.ports
