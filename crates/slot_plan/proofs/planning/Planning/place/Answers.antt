use Rattle.slot_plan.proofs.planning.Planning.place.Goals as goal

pub put-requires-clause-heard : goal.put-requires-clause-heard
put-requires-clause-heard c = c.requires.readers.each c.args.item c.of.result.now c.of.ensures
