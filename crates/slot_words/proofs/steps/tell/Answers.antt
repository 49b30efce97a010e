use Rattle.slot_words.proofs.steps.tell.Goals as goal

pub store-requires : goal.store-requires
store-requires g c = (c.requires.own, c.requires.inside, c.requires.may)
