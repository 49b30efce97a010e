use Rattle.std.proofs.Common.{◌<◌, length, ap, arith}
use Rattle.image_build.proofs.MemoryLemmas.{memories_none, memories_more, memories_all}
use Rattle.image_build.proofs.memories.memories_of.Goals as goal

pub memories-preserved : goal.memories-preserved
memories-preserved c =
    let low : c.memories.m < length c.args.nodes.now.blocks = omega (arith, c.requires.homes.blocks, ap length c.as_slice-ports.ensures) in
    let home = (c.requires.homes.memories c.memories.m low).1 in
    let ports = c.as_slice-ports.ensures in
    memories_more c.args.nodes.now c.args.homes.now c.memories.m c.memories.memories c.put.new.memories (omega (arith, home, c.memories.invariant.ports)) c.memories.invariant
    (rw ports at c.in_ok-put.ensures.lists) (rw ports at c.in_ok-put.ensures.places)

pub returns : goal.returns
returns c = memories_all c.args.nodes.now c.args.homes.now c.memories.m c.memories.memories (omega (arith, c.requires.homes.blocks, ap length c.as_slice-ports.ensures)) c.memories.invariant

pub memories-init : goal.memories-init
memories-init c = memories_none c.args.nodes.now c.args.homes.now _ c.in_ok-empty_lists.ensures c.new.ensures

pub put-requires-clause-port : goal.put-requires-clause-port
put-requires-clause-port c =
    let low : c.memories.m < length c.args.nodes.now.blocks = omega (arith, c.requires.homes.blocks, ap length c.as_slice-ports.ensures) in
    let home = (c.requires.homes.memories c.memories.m low).1 in
    rw c.as_slice-ports.ensures (omega (arith, home, c.memories.invariant.ports))
