use Rattle.refusals.proofs.lines.overfull.write_overfull_line.Goals as goal

pub returns-in-Nodes : goal.returns-in-Nodes
returns-in-Nodes g c = rw c.in-Nodes.is c.write_needed_line-in-Nodes.ensures
