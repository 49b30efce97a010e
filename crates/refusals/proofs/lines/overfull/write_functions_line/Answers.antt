-- The pieces are those of the line, its numbers in decimal.
use Rattle.refusals.specs.Lines.{functions_line}
use Rattle.refusals.proofs.lines.overfull.write_functions_line.Goals as goal

pub returns : goal.returns
unfolding functions_line
returns g c = rw (c.as_bytes-port.ensures.value, c.format.ensures.text, c.as_bytes-needed.ensures.value, c.format-2.ensures.text, c.as_bytes-limit.ensures.value, c.format-3.ensures.text) at c.write_pieces.ensures
