use Rattle.image_defs.specs.WellFormed.{IsLinkIn}
use Rattle.image_check.proofs.lemmas.EachLemmas.{EachBelow}
use Rattle.image_check.proofs.links.are_links_in.Given as goal

abbrev pub invariant-links : goal.invariant-links
invariant-links l = EachBelow (IsLinkIn l.image l.p) l.k l.links
