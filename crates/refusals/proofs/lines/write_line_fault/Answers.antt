-- The pieces are those of the line, its number in decimal.
use Rattle.refusals.specs.Lines.{line_fault}
use Rattle.refusals.proofs.lines.write_line_fault.Goals as goal

pub returns : goal.returns
unfolding line_fault
returns g c = rw (c.as_bytes-line.ensures.value, c.format.ensures.text) at c.write_pieces.ensures
