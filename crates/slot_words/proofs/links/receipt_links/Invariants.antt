use Rattle.slot_words.specs.Links.{AreReceiptLinks}
use Rattle.slot_words.proofs.links.receipt_links.Given as goal

abbrev pub invariant-ins : goal.invariant-ins
invariant-ins l = AreReceiptLinks l.image l.banks l.ins l.j l.links
