use Rattle.std.proofs.{Common.arith, lemmas.Option.slice_get-get_or}
use Rattle.port_logic.proofs.OpLemmas.{forms_more}
use Rattle.port_logic.proofs.op.forms_of.Goals as goal

pub tables-preserved : goal.tables-preserved
tables-preserved g c =
    rw c.in_ok-push.ensures.ok
    (forms_more g.W.Word.is_pair g.W.Word.is_form c.args.tables.now c.tables.table-index c.tables.forms _ c.form_of.result c.tables.invariant
    (slice_get-get_or c.args.tables.now c.tables.table-index _ (omega (arith, c.tables-test.true))) c.form_of.ensures)
