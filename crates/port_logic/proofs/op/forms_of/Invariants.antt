use Rattle.port_logic.specs.code.Ops.{AreFormsOf}
use Rattle.port_logic.proofs.op.forms_of.Given as goal

abbrev pub invariant-tables : goal.invariant-tables
invariant-tables g l = AreFormsOf g.W.Word.is_form l.tables l.table-index l.forms
