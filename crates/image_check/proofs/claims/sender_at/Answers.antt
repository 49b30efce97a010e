use Rattle.std.proofs.Common.{◌∙◌, ap, sym}
use Rattle.image_defs.specs.Places.{in_slots}
use Rattle.image_check.proofs.ShapeLemmas.{shape_read}
use Rattle.image_check.proofs.claims.sender_at.Goals as goal

pub sender_of-requires-clause-slots : goal.sender_of-requires-clause-slots
sender_of-requires-clause-slots c =
    let shape = shape_read c.args.one.now.file.now.image.ports c.args.one.now.shapes.now c.args.one.now.number c.args.one.now.port.now c.index-one-one.result c.requires.laid.are c.requires.is in
    c.as_slice-2.ensures ∙ shape.ins ∙ ap in_slots (sym c.as_slice.ensures)
