use Rattle.std.proofs.Common.{◌≡◌}
use Rattle.node_map.proofs.ItemLemmas.{BlocksTo}
use Rattle.node_map.proofs.items.all_blocks.Given as goal

abbrev pub invariant-memories : goal.invariant-memories
invariant-memories l = record {
  to : BlocksTo l.numbering.names l.net.blocks l.memory-index l.blocks;
  whole : l.memory-items ≡ l.net.blocks;
}
