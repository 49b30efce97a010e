-- The line is that of the fault.
use Rattle.refusals.proofs.lines.netlist.write_netlist_line.Goals as goal

pub returns-in-Syntax : goal.returns-in-Syntax
returns-in-Syntax g c = rw c.in-Syntax.is c.write_line_fault.ensures

pub returns-in-UnknownKind : goal.returns-in-UnknownKind
returns-in-UnknownKind g c = rw c.in-UnknownKind.is c.write_line_fault-in-UnknownKind.ensures

pub returns-in-Arity : goal.returns-in-Arity
returns-in-Arity g c = rw c.in-Arity.is c.write_line_fault-in-Arity.ensures
