-- The pieces are those of the line, its numbers in decimal.
use Rattle.refusals.specs.Lines.{byte_line}
use Rattle.refusals.proofs.lines.netlist.write_byte_line.Goals as goal

pub returns : goal.returns
unfolding byte_line
returns g c = rw (c.as_bytes-line.ensures.value, c.format.ensures.text, c.as_bytes-column.ensures.value, c.format-2.ensures.text) at c.write_pieces.ensures
