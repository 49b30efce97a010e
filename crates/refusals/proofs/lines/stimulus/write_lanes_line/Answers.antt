-- The line is that of the fault.
use Rattle.refusals.proofs.lines.stimulus.write_lanes_line.Goals as goal

pub returns-in-NoLane : goal.returns-in-NoLane
returns-in-NoLane g c = rw c.in-NoLane.is c.write_line_fault.ensures

pub returns-in-TooMany : goal.returns-in-TooMany
returns-in-TooMany g c = rw c.in-TooMany.is c.write_many_lanes_line.ensures
