use Rattle.std.proofs.Common.{rules}
use Rattle.image_defs.specs.WellFormed.{IsBlock}
use Rattle.image_check.proofs.lemmas.EachLemmas.{each_next, each_done, each_not}
use Rattle.image_check.proofs.works.are_blocks.Goals as goal

pub memories-preserved : goal.memories-preserved
memories-preserved c =
    each_next (IsBlock c.args.port.now) c.memories.b c.args.blocks.now c.index-blocks-b.result c.memories.invariant c.memories-test.true c.index-blocks-b.is (c.if-not-is_block.ensures.0 (search rules))

pub returns : goal.returns
returns c = each_done (IsBlock c.args.port.now) c.memories.b c.args.blocks.now c.memories-test.false c.memories.invariant

pub returns-then-not-is_block : goal.returns-then-not-is_block
returns-then-not-is_block c = each_not (IsBlock c.args.port.now) c.memories.b c.args.blocks.now c.index-blocks-b.result c.memories-test.true c.index-blocks-b.is c.if-not-is_block.ensures
