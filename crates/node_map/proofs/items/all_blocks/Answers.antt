use Rattle.node_map.proofs.ItemLemmas.{blocks_more, item_there}
use Rattle.node_map.proofs.items.all_blocks.Goals as goal

pub block-requires : goal.block-requires
block-requires c =
    let memory =
    c.requires.valid.memories c.memories.memory-index c.memory-item.result (item_there c.as_slice-memory-items.result.now c.args.net.now.blocks c.memories.memory-index c.memory-item.result c.memories.invariant.whole c.memory-item.is c.memories-test.true) in
    record { numbered = c.requires.numbered; enable = memory.enable; address = memory.address; word = memory.word }

pub memories-preserved : goal.memories-preserved
memories-preserved c = record {
  to = rw c.in_ok-push.ensures.ok (blocks_more c.args.numbering.now.names c.args.net.now.blocks c.memories.memory-index c.memories.blocks c.memory-item.result c.in_ok-block.field-0 c.memories.invariant.to
      (item_there c.as_slice-memory-items.result.now c.args.net.now.blocks c.memories.memory-index c.memory-item.result c.memories.invariant.whole c.memory-item.is c.memories-test.true)
      c.in_ok-block.ensures);
  whole = c.memories.invariant.whole;
}
