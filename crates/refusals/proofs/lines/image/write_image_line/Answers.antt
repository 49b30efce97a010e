-- The line is that of the fault.
use Rattle.refusals.proofs.lines.image.write_image_line.Goals as goal

pub returns-in-Syntax : goal.returns-in-Syntax
returns-in-Syntax g c = rw c.in-Syntax.is c.write_line_fault.ensures

pub returns-in-Range : goal.returns-in-Range
returns-in-Range g c = rw c.in-Range.is c.write_line_fault-in-Range.ensures
