use Rattle.std.proofs.Common.{rules}
use Rattle.image_defs.specs.WellFormed.{IsLinkOut}
use Rattle.image_check.proofs.lemmas.EachLemmas.{each_next, each_done, each_not}
use Rattle.image_check.proofs.links.are_links_out.Goals as goal

pub links-preserved : goal.links-preserved
links-preserved c = each_next (IsLinkOut c.args.image.now c.args.p c.args.port.now) c.links.k c.args.links.now c.index-links-k.result c.links.invariant c.links-test.true c.index-links-k.is (c.if-not-is_link_out.ensures.0 (search rules))

pub returns : goal.returns
returns c = each_done (IsLinkOut c.args.image.now c.args.p c.args.port.now) c.links.k c.args.links.now c.links-test.false c.links.invariant

pub returns-then-not-is_link_out : goal.returns-then-not-is_link_out
returns-then-not-is_link_out c = each_not (IsLinkOut c.args.image.now c.args.p c.args.port.now) c.links.k c.args.links.now c.index-links-k.result c.links-test.true c.index-links-k.is c.if-not-is_link_out.ensures
