use Rattle.image_defs.specs.WellFormed.{IsPast}
use Rattle.image_check.proofs.lemmas.EachLemmas.{EachBelow}
use Rattle.image_check.proofs.sources.are_past.Given as goal

abbrev pub invariant-sources : goal.invariant-sources
invariant-sources l = EachBelow (IsPast l.port) l.k l.sources
