use Rattle.std.proofs.{Common.sym, Common.arith, lemmas.Option.slice_get_within}
use Rattle.image_check.proofs.{LinkLemmas.reader_some, ShapeLemmas.shape_found}
use Rattle.image_check.proofs.links.is_reader.Goals as goal

pub returns-in-Some : goal.returns-in-Some
returns-in-Some c = reader_some c.args.image.now c.args.p c.args.slot c.args.reader c.in-Some.port.now c.receives.result c.if-reader-p.false (sym c.in-Some.ensures) c.receives.ensures

pub receives-requires-clause-shape : goal.receives-requires-clause-shape
receives-requires-clause-shape c = shape_found c.args.image.now.ports c.args.shapes.now c.args.reader c.in-Some.port.now c.index-shapes-reader.result c.requires.shapes (sym c.in-Some.ensures) c.index-shapes-reader.is

pub bounds-shapes-reader : goal.bounds-shapes-reader
bounds-shapes-reader c = let low = slice_get_within c.args.image.now.ports c.args.reader c.in-Some.port.now (sym c.in-Some.ensures) in omega (arith, low, c.requires.shapes.as_many)
