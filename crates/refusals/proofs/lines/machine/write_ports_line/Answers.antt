-- The pieces are those of the line, its numbers in decimal.
use Rattle.refusals.specs.Lines.{ports_line}
use Rattle.refusals.proofs.lines.machine.write_ports_line.Goals as goal

pub returns : goal.returns
unfolding ports_line
returns g c = rw (c.as_bytes-ports.ensures.value, c.format.ensures.text, c.as_bytes-most.ensures.value, c.format-2.ensures.text) at c.write_pieces.ensures
