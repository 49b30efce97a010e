-- The pieces are those of the line, its numbers in decimal.
use Rattle.refusals.specs.Lines.{limit_line}
use Rattle.refusals.proofs.diagnostics.write_limit_line.Goals as goal

pub returns : goal.returns
unfolding limit_line
returns g c = rw (c.as_bytes-size.ensures.value, c.format.ensures.text, c.as_bytes-most.ensures.value, c.format-2.ensures.text) at c.write_pieces.ensures
