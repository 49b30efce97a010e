use Rattle.node_map.proofs.MadeLemmas.{made_items, classes_rise}
use Rattle.node_map.proofs.map.nodes_of.Goals as goal

pub first_node-requires-clause-classes : goal.first_node-requires-clause-classes
first_node-requires-clause-classes c = classes_rise c.args.net.now c.args.keys.now c.requires.keyed

pub returns : goal.returns
returns c =
    rw c.into_names.ensures (made_items c.args.net.now c.args.timing.now c.requires.ranked.0 c.args.keys.now c.in_ok-numbering.numbering.names c.in_ok-made.made.tables c.in_ok-made.made.items c.first_node.result
    c.requires.ranked.1 c.requires.keyed c.requires.ranked.2 c.in_ok-numbering.ensures.named c.in_ok-made.ensures.made
    c.first_node.ensures.within c.first_node.ensures.nodes
    c.in_ok-references.references.printed c.in_ok-references.references.blocks c.in_ok-made.ensures.different c.in_ok-references.ensures.printed c.in_ok-references.ensures.blocks)
