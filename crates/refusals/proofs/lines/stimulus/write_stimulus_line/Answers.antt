-- The line is that of the fault.
use Rattle.refusals.proofs.lines.stimulus.write_stimulus_line.Goals as goal

pub returns-in-BadChar : goal.returns-in-BadChar
returns-in-BadChar g c = rw c.in-BadChar.is c.write_line_fault.ensures

pub returns-in-Repeat : goal.returns-in-Repeat
returns-in-Repeat g c = rw c.in-Repeat.is c.write_line_fault-in-Repeat.ensures
