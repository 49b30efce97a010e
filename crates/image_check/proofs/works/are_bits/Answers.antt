use Rattle.std.proofs.Common.{rules}
use Rattle.image_defs.specs.WellFormed.{IsBit}
use Rattle.image_check.proofs.lemmas.EachLemmas.{each_read, each_done, each_read_not}
use Rattle.image_check.proofs.works.are_bits.Goals as goal

pub outs-preserved : goal.outs-preserved
outs-preserved c = each_read (IsBit c.args.blocks.now) c.outs.k c.args.outs.now _ c.outs.invariant c.outs-test.true (c.if-not-is_bit.ensures.0 (search rules))

pub returns : goal.returns
returns c = each_done (IsBit c.args.blocks.now) c.outs.k c.args.outs.now c.outs-test.false c.outs.invariant

pub returns-then-not-is_bit : goal.returns-then-not-is_bit
returns-then-not-is_bit c = each_read_not (IsBit c.args.blocks.now) c.outs.k c.args.outs.now _ c.outs-test.true c.if-not-is_bit.ensures
