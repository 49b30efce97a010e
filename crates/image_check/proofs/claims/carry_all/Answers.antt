use Rattle.std.proofs.Common.{rules}
use Rattle.image_check.proofs.CarryLemmas.{carry_not, carry_more, carry_done}
use Rattle.image_check.proofs.claims.carry_all.Goals as goal

pub returns-then-not-carries_item : goal.returns-then-not-carries_item
returns-then-not-carries_item c = carry_not c.args.one.now c.args.sources.now c.args.items.now c.sources.k _ c.sources-test.true c.if-sources-items.false c.if-not-carries_item.ensures

pub sources-preserved : goal.sources-preserved
sources-preserved c = carry_more c.args.one.now c.args.sources.now c.args.items.now c.sources.k _ c.sources-test.true c.if-sources-items.false c.sources.invariant (c.if-not-carries_item.ensures.0 (search rules))

pub returns : goal.returns
returns c = carry_done c.args.one.now c.args.sources.now c.args.items.now c.sources.k c.sources-test.false c.if-sources-items.false c.sources.invariant
