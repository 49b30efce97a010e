-- The bits so far and those of the next memory fit a number.
use Rattle.std.proofs.Common.{arith}
use Rattle.call_steps.proofs.SizeLemmas.{sum_few, word_few}
use Rattle.call_steps.proofs.sizes.memory_bits.Goals as goal

pub block_bits-bits-requires-clause-word : goal.block_bits-bits-requires-clause-word
block_bits-bits-requires-clause-word c =
    word_few c.args.net.now c.as_slice.result.now c.as_slice.ensures c.memories.m c.index-as_slice-m.result (omega (arith, c.memories-test.true, c.len-m-end.ensures)) c.index-as_slice-m.is c.requires

pub overflow_add-bits : goal.overflow_add-bits
overflow_add-bits c =
    let few = sum_few c.args.net.now c.as_slice.result.now c.as_slice.ensures c.memories.m c.index-as_slice-m.result c.memories.bits (omega (arith, c.memories-test.true, c.len-m-end.ensures)) c.index-as_slice-m.is c.requires c.memories.invariant.bits in
    omega (arith, few, c.block_bits-bits.ensures)
