use Rattle.yse.proofs.tests.below.items.items_of.Goals as goal

pub returns : goal.returns
returns c = c.items_are_well_formed.ensures c.args.net.now c.args.timing.now c.in-Ok-map_nodes.nodes c.requires.net c.in-Ok-map_nodes.ensures.items.items
