use Rattle.std.proofs.Common.{rules}
use Rattle.image_check.proofs.FirstLemmas.{all_printed, first_unprinted_at, prints_more}
use Rattle.image_check.proofs.places.first_unprinted.Goals as goal

pub returns-then-not-carries_item : goal.returns-then-not-carries_item
returns-then-not-carries_item c = first_unprinted_at c.args.one.now c.args.printed.now c.args.items.now c.columns.j _ c.columns-test.true c.requires.as_many c.columns.invariant c.if-not-carries_item.ensures

pub columns-preserved : goal.columns-preserved
columns-preserved c = prints_more c.args.one.now c.args.printed.now c.args.items.now c.columns.j _ c.columns-test.true c.requires.as_many c.columns.invariant (c.if-not-carries_item.ensures.0 (search rules))

pub returns : goal.returns
returns c = all_printed c.args.one.now c.args.printed.now c.args.items.now c.columns.j c.columns-test.false c.columns.invariant
