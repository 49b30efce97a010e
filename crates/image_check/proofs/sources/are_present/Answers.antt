use Rattle.std.proofs.Common.{rules}
use Rattle.image_defs.specs.WellFormed.{IsPresent}
use Rattle.image_check.proofs.lemmas.EachLemmas.{each_read, each_done, each_read_not}
use Rattle.image_check.proofs.sources.are_present.Goals as goal

pub sources-preserved : goal.sources-preserved
sources-preserved c = each_read (IsPresent c.args.port.now) c.sources.k c.args.sources.now _ c.sources.invariant c.sources-test.true (c.if-not-is_present.ensures.0 (search rules))

pub returns : goal.returns
returns c = each_done (IsPresent c.args.port.now) c.sources.k c.args.sources.now c.sources-test.false c.sources.invariant

pub returns-then-not-is_present : goal.returns-then-not-is_present
returns-then-not-is_present c = each_read_not (IsPresent c.args.port.now) c.sources.k c.args.sources.now _ c.sources-test.true c.if-not-is_present.ensures
