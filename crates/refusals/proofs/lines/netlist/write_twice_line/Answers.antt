-- The pieces are those of the line, its numbers in decimal.
use Rattle.refusals.specs.Lines.{twice_line}
use Rattle.refusals.proofs.lines.netlist.write_twice_line.Goals as goal

pub returns : goal.returns
unfolding twice_line
returns g c = rw (c.as_bytes-line.ensures.value, c.format.ensures.text, c.as_bytes-first_line.ensures.value, c.format-2.ensures.text) at c.write_pieces.ensures
