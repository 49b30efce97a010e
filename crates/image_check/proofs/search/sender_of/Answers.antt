use Rattle.image_check.proofs.SearchLemmas.{sender_absent, sender_there}
use Rattle.image_check.proofs.search.sender_of.Goals as goal

pub returns-in-Some : goal.returns-in-Some
returns-in-Some c = sender_there c.args.links.now c.args.slots.now c.args.slot c.in-Some.place _ c.requires.slots c.requires.rising c.in-Some.ensures

pub returns-in-None : goal.returns-in-None
returns-in-None c = sender_absent c.args.links.now c.args.slots.now c.args.slot c.requires.slots c.in-None.ensures
