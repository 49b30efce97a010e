use Rattle.slot_words.proofs.LinkLemmas.{HasNot}
use Rattle.slot_words.proofs.links.search.Given as goal

abbrev pub invariant-links : goal.invariant-links
invariant-links l = HasNot l.links l.slot l.k
