-- The line is that of the fault.
use Rattle.refusals.proofs.lines.machine.write_machine_line.Goals as goal

pub returns-in-Syntax : goal.returns-in-Syntax
returns-in-Syntax g c = rw c.in-Syntax.is c.write_line_fault.ensures

pub returns-in-Range : goal.returns-in-Range
returns-in-Range g c = rw c.in-Range.is c.write_line_fault-in-Range.ensures

pub returns-in-Twice : goal.returns-in-Twice
returns-in-Twice g c = rw c.in-Twice.is c.write_line_fault-in-Twice.ensures

pub returns-in-NoPort : goal.returns-in-NoPort
returns-in-NoPort g c = rw c.in-NoPort.is c.write_line_fault-in-NoPort.ensures
