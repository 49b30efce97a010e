use Rattle.image_defs.specs.WellFormed.{IsLinkOut}
use Rattle.image_check.proofs.lemmas.EachLemmas.{EachBelow}
use Rattle.image_check.proofs.links.are_links_out.Given as goal

abbrev pub invariant-links : goal.invariant-links
invariant-links l = EachBelow (IsLinkOut l.image l.p l.port) l.k l.links
