-- The line is that of the fault.
use Rattle.refusals.proofs.lines.list.write_list_line.Goals as goal

pub returns-in-Syntax : goal.returns-in-Syntax
returns-in-Syntax g c = rw c.in-Syntax.is c.write_line_fault.ensures

pub returns-in-NoGate : goal.returns-in-NoGate
returns-in-NoGate g c = rw c.in-NoGate.is c.write_line_fault-in-NoGate.ensures

pub returns-in-Twice : goal.returns-in-Twice
returns-in-Twice g c = rw c.in-Twice.is c.write_line_fault-in-Twice.ensures
