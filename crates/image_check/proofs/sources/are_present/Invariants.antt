use Rattle.image_defs.specs.WellFormed.{IsPresent}
use Rattle.image_check.proofs.lemmas.EachLemmas.{EachBelow}
use Rattle.image_check.proofs.sources.are_present.Given as goal

abbrev pub invariant-sources : goal.invariant-sources
invariant-sources l = EachBelow (IsPresent l.port) l.k l.sources
