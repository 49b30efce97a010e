-- The line is that of the fault.
use Rattle.refusals.proofs.lines.list.write_faults_line.Goals as goal

pub returns-in-Syntax : goal.returns-in-Syntax
returns-in-Syntax g c = rw c.in-Syntax.is c.write_line_fault.ensures

pub returns-in-NoSignal : goal.returns-in-NoSignal
returns-in-NoSignal g c = rw c.in-NoSignal.is c.write_line_fault-in-NoSignal.ensures

pub returns-in-Twice : goal.returns-in-Twice
returns-in-Twice g c = rw c.in-Twice.is c.write_line_fault-in-Twice.ensures
