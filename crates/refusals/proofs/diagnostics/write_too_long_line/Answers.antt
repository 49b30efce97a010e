-- The pieces are those of the line, its numbers in decimal.
use Rattle.refusals.specs.Lines.{too_long_line}
use Rattle.refusals.proofs.diagnostics.write_too_long_line.Goals as goal

pub returns : goal.returns
unfolding too_long_line
returns g c = rw (c.as_bytes-most.ensures.value, c.format.ensures.text) at c.write_pieces.ensures
