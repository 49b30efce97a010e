-- What is written of the line is told of it.
use Rattle.edge_io.proofs.lemmas.WritingLemmas.{tells_written}
use Rattle.refusals.proofs.diagnostics.tell_write_fault.Goals as goal

pub returns-clause-line : goal.returns-clause-line
returns-clause-line g c = tells_written _ _ _ _ _ _ c.write_write_fault_line.ensures
