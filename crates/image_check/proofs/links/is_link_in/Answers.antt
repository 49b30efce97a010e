use Rattle.std.proofs.{Common.sym, Common.arith, lemmas.Option.slice_get_within}
use Rattle.image_check.proofs.{LinkLemmas.link_in_some, ShapeLemmas.shape_found}
use Rattle.image_check.proofs.links.is_link_in.Goals as goal

pub returns-in-Some : goal.returns-in-Some
returns-in-Some c = link_in_some c.args.image.now c.args.p c.args.link.now c.in-Some.sender.now c.sends_to.result (sym c.in-Some.ensures) c.sends_to.ensures

pub sends_to-requires-clause-shape : goal.sends_to-requires-clause-shape
sends_to-requires-clause-shape c = shape_found c.args.image.now.ports c.args.shapes.now c.args.link.now.sender c.in-Some.sender.now c.index-shapes-link.result c.requires.shapes (sym c.in-Some.ensures) c.index-shapes-link.is

pub bounds-shapes-link : goal.bounds-shapes-link
bounds-shapes-link c = let low = slice_get_within c.args.image.now.ports c.args.link.now.sender c.in-Some.sender.now (sym c.in-Some.ensures) in omega (arith, low, c.requires.shapes.as_many)
