use Rattle.std.proofs.Common.{rules}
use Rattle.image_check.proofs.CarryLemmas.{memory_by_word, memory_no_address}
use Rattle.image_check.proofs.memories.memory_implements.Goals as goal

pub returns-then-not-carry_all : goal.returns-then-not-carry_all
returns-then-not-carry_all c =
    memory_no_address c.args.one.now c.args.block.now c.args.memory.now c.as_slice.result.now c.as_slice-2.result.now c.as_slice.ensures c.as_slice-2.ensures c.if-not-carry_all.ensures

pub returns : goal.returns
returns c =
    memory_by_word c.args.one.now c.args.block.now c.args.memory.now c.as_slice.result.now c.as_slice-3.result.now c.as_slice-2.result.now c.as_slice-4.result.now c.carry_all-2.result
    c.as_slice.ensures c.as_slice-3.ensures c.as_slice-2.ensures c.as_slice-4.ensures (c.if-not-carries_item.ensures.0 (search rules)) (c.if-not-carry_all.ensures.0 (search rules)) c.carry_all-2.ensures
