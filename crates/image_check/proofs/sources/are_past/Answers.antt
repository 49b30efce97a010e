use Rattle.std.proofs.Common.{rules}
use Rattle.image_defs.specs.WellFormed.{IsPast}
use Rattle.image_check.proofs.lemmas.EachLemmas.{each_read, each_done, each_read_not}
use Rattle.image_check.proofs.sources.are_past.Goals as goal

pub sources-preserved : goal.sources-preserved
sources-preserved c = each_read (IsPast c.args.port.now) c.sources.k c.args.sources.now _ c.sources.invariant c.sources-test.true (c.if-not-is_past.ensures.0 (search rules))

pub returns : goal.returns
returns c = each_done (IsPast c.args.port.now) c.sources.k c.args.sources.now c.sources-test.false c.sources.invariant

pub returns-then-not-is_past : goal.returns-then-not-is_past
returns-then-not-is_past c = each_read_not (IsPast c.args.port.now) c.sources.k c.args.sources.now _ c.sources-test.true c.if-not-is_past.ensures
