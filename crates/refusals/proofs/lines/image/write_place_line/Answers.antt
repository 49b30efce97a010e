-- The pieces are those of the line, its numbers in decimal.
use Rattle.refusals.specs.Lines.{place_line}
use Rattle.refusals.proofs.lines.image.write_place_line.Goals as goal

pub returns : goal.returns
unfolding place_line
returns g c = rw (c.as_bytes-port.ensures.value, c.format.ensures.text, c.as_bytes-slot.ensures.value, c.format-2.ensures.text) at c.write_pieces.ensures
