-- The pieces are those of the line, its numbers in decimal.
use Rattle.refusals.specs.Lines.{bits_line}
use Rattle.refusals.proofs.lines.overfull.write_bits_line.Goals as goal

pub returns : goal.returns
unfolding bits_line
returns g c = rw (c.as_bytes-needed.ensures.value, c.format.ensures.text, c.as_bytes-left.ensures.value, c.format-2.ensures.text) at c.write_pieces.ensures
