use Rattle.slot_words.specs.Links.{AreSendLinks}
use Rattle.slot_words.proofs.links.send_links.Given as goal

abbrev pub invariant-outs : goal.invariant-outs
invariant-outs l = AreSendLinks l.image l.banks l.p l.outs l.i l.links
