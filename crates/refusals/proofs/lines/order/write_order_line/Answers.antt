-- The line is that of the fault.
use Rattle.refusals.proofs.lines.order.write_order_line.Goals as goal

pub returns-in-Syntax : goal.returns-in-Syntax
returns-in-Syntax g c = rw c.in-Syntax.is c.write_line_fault.ensures

pub returns-in-Port : goal.returns-in-Port
returns-in-Port g c = rw c.in-Port.is c.write_line_fault-in-Port.ensures

pub returns-in-TooLong : goal.returns-in-TooLong
returns-in-TooLong g c = rw c.in-TooLong.is c.write_line_fault-in-TooLong.ensures
