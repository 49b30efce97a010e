-- The pieces are those of the line, its number in decimal.
use Rattle.refusals.specs.Lines.{undriven_line}
use Rattle.refusals.proofs.lines.netlist.write_undriven_line.Goals as goal

pub returns : goal.returns
unfolding undriven_line
returns g c = rw (c.as_bytes-line.ensures.value, c.format.ensures.text) at c.write_pieces.ensures
