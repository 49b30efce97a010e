use Rattle.port_logic.specs.Ops.{AreOpsOf}
use Rattle.port_logic.proofs.op.ops_of.Given as goal

abbrev pub invariant-tasks : goal.invariant-tasks
invariant-tasks g l = AreOpsOf g.W.Word.is_pair g.W.Word.is_form l.slots l.tables l.tasks l.task-index l.ops
