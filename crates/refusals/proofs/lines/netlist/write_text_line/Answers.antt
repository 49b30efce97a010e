-- The line is that of the fault.
use Rattle.refusals.proofs.lines.netlist.write_text_line.Goals as goal

pub returns-in-LongName : goal.returns-in-LongName
returns-in-LongName g c = rw c.in-LongName.is c.write_line_fault.ensures
