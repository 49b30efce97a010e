-- The pieces are those of the line, its numbers in decimal.
use Rattle.refusals.specs.Lines.{many_lanes_line}
use Rattle.refusals.proofs.lines.stimulus.write_many_lanes_line.Goals as goal

pub returns : goal.returns
unfolding many_lanes_line
returns g c = rw (c.as_bytes-line.ensures.value, c.format.ensures.text, c.as_bytes-most.ensures.value, c.format-2.ensures.text) at c.write_pieces.ensures
