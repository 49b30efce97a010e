use Rattle.image_defs.specs.WellFormed.{IsPortImage}
use Rattle.image_check.proofs.lemmas.EachLemmas.{EachAtBelow}
use Rattle.image_check.proofs.ports.are_ports.Given as goal

abbrev pub invariant-ports : goal.invariant-ports
invariant-ports l = EachAtBelow (IsPortImage l.image) l.p l.ports
