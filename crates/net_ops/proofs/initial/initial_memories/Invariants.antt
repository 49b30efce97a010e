use Rattle.std.proofs.Common.{◌≡◌, map, take, length}
use Rattle.logic_four.specs.Memory.{initial_words}
use Rattle.net_ops.proofs.initial.initial_memories.Given as goal

abbrev pub invariant-loop-block : goal.invariant-loop-block
invariant-loop-block l = record {
  so_far : l.words ≡ map (λ memory. initial_words (length memory.address) (length memory.word) l.v) (take l.block-index l.block-items);
  whole : l.block-items ≡ l.net.blocks;
}
