use Rattle.std.proofs.Common.{rules}
use Rattle.image_defs.specs.WellFormed.{IsLinkIn}
use Rattle.image_check.proofs.lemmas.EachLemmas.{each_read, each_done, each_read_not}
use Rattle.image_check.proofs.links.are_links_in.Goals as goal

pub links-preserved : goal.links-preserved
links-preserved c = each_read (IsLinkIn c.args.image.now c.args.p) c.links.k c.args.links.now _ c.links.invariant c.links-test.true (c.if-not-is_link_in.ensures.0 (search rules))

pub returns : goal.returns
returns c = each_done (IsLinkIn c.args.image.now c.args.p) c.links.k c.args.links.now c.links-test.false c.links.invariant

pub returns-then-not-is_link_in : goal.returns-then-not-is_link_in
returns-then-not-is_link_in c = each_read_not (IsLinkIn c.args.image.now c.args.p) c.links.k c.args.links.now _ c.links-test.true c.if-not-is_link_in.ensures
