-- The pieces are those of the line, its numbers in decimal.
use Rattle.refusals.specs.Lines.{width_line}
use Rattle.refusals.proofs.lines.stimulus.write_width_line.Goals as goal

pub returns : goal.returns
unfolding width_line
returns g c = rw (c.as_bytes-line.ensures.value, c.format.ensures.text, c.as_bytes-got.ensures.value, c.format-2.ensures.text, c.as_bytes-want.ensures.value, c.format-3.ensures.text) at c.write_pieces.ensures
