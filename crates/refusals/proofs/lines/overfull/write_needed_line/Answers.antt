-- The pieces are those of the line, its numbers in decimal.
use Rattle.refusals.specs.Lines.{needed_line}
use Rattle.refusals.proofs.lines.overfull.write_needed_line.Goals as goal

pub returns : goal.returns
unfolding needed_line
returns g c = rw (c.as_bytes-needed.ensures.value, c.format.ensures.text, c.as_bytes-limit.ensures.value, c.format-2.ensures.text) at c.write_pieces.ensures
