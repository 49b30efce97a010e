use Rattle.image_check.specs.code.Links.{IsReader}
use Rattle.image_check.proofs.lemmas.EachLemmas.{EachBelow}
use Rattle.image_check.proofs.links.are_readers.Given as goal

abbrev pub invariant-readers : goal.invariant-readers
invariant-readers l = EachBelow (IsReader l.image l.p l.slot) l.k l.readers
