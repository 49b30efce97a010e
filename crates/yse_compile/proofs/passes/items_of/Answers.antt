use Rattle.std.proofs.Common.{refl}
use Rattle.yse_compile.proofs.passes.items_of.Goals as goal

pub map_nodes-requires-clause-ranked : goal.map_nodes-requires-clause-ranked
map_nodes-requires-clause-ranked c = c.in-Ok.ensures.ranks

pub returns-in-Ok-map_nodes-clause-items : goal.returns-in-Ok-map_nodes-clause-items
returns-in-Ok-map_nodes-clause-items c = c.in-Ok-map_nodes.ensures.items

pub returns-in-Ok-clause-either : goal.returns-in-Ok-clause-either
returns-in-Ok-clause-either c = λ machine either. refl

pub returns-in-Err-Loop-clause-either : goal.returns-in-Err-Loop-clause-either
returns-in-Err-Loop-clause-either c =
    λ machine either. absurd (either.acyclic c.in-Err-Loop.members (rw c.in-Err-Loop.field-0-is at c.in-Err-Loop.ensures.looped).circle)

pub returns-in-Ok-map_nodes-clause-acyclic : goal.returns-in-Ok-map_nodes-clause-acyclic
returns-in-Ok-map_nodes-clause-acyclic c = c.in-Ok.ensures.acyclic

pub returns-in-Ok-map_nodes-clause-formed : goal.returns-in-Ok-map_nodes-clause-formed
returns-in-Ok-map_nodes-clause-formed c = c.items_are_well_formed.ensures c.args.net.now c.args.timing.now c.in-Ok-map_nodes.nodes c.requires.net c.in-Ok-map_nodes.ensures.items.items
