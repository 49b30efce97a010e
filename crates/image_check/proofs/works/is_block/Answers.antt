use Rattle.std.proofs.Common.{rules}
use Rattle.image_check.proofs.WorkLemmas.{no_address, block_by_word}
use Rattle.image_check.proofs.works.is_block.Goals as goal

pub returns-then-not-are_past : goal.returns-then-not-are_past
returns-then-not-are_past c = no_address c.args.port.now c.args.block.now c.as_slice.result.now c.as_slice.ensures c.if-not-are_past.ensures

pub returns : goal.returns
returns c =
    block_by_word c.args.port.now c.args.block.now c.len.result c.len-2.result c.as_slice.result.now c.as_slice-2.result.now c.are_past-2.result
    c.len.ensures c.len-2.ensures c.as_slice.ensures c.as_slice-2.ensures
    (c.if-not-is_from_1_to.ensures.0 (search rules)) (c.if-not-is_from_1_to-2.ensures.0 (search rules)) (c.if-not-is_past.ensures.0 (search rules)) (c.if-not-are_past.ensures.0 (search rules))
    c.are_past-2.ensures
