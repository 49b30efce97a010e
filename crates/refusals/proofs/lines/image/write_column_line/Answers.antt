-- The pieces are those of the line, its numbers in decimal.
use Rattle.refusals.specs.Lines.{column_line}
use Rattle.refusals.proofs.lines.image.write_column_line.Goals as goal

pub returns : goal.returns
unfolding column_line
returns g c = rw (c.as_bytes-column.ensures.value, c.format.ensures.text) at c.write_pieces.ensures
