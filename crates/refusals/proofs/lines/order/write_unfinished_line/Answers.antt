-- The pieces are those of the line, its numbers in decimal.
use Rattle.refusals.specs.Lines.{unfinished_line}
use Rattle.refusals.proofs.lines.order.write_unfinished_line.Goals as goal

pub returns : goal.returns
unfolding unfinished_line
returns g c = rw (c.as_bytes-rows.ensures.value, c.format.ensures.text, c.as_bytes-cycles.ensures.value, c.format-2.ensures.text) at c.write_pieces.ensures
