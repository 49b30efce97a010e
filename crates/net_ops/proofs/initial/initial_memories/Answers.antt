use Rattle.std.proofs.Common.{◌∙◌, ap, get_or, length, arith}
use Rattle.net_ops.proofs.Memories.{memory_here}
use Rattle.net_ops.proofs.initial.initial_memories.Goals as goal

pub initial_memory-requires-clause-word : goal.initial_memory-requires-clause-word
initial_memory-requires-clause-word c =
    let same = c.as_slice-block-items.ensures in
    let below = c.loop-block-test.true in
    let whole = ap length same in
    let here = memory_here c.args.net.now c.loop-block.block-index c.block-item.result (omega arith) (c.block-item.is ∙ ap (λ list. get_or list c.loop-block.block-index c.block-item.result) same) in
    let is_memory = c.requires.memories c.loop-block.block-index c.block-item.result here in
    is_memory.word_bits.1
