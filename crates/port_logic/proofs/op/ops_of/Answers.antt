use Rattle.std.proofs.{Common.subst, Common.arith, lemmas.Option.slice_get-get_or}
use Rattle.port_logic.specs.Ops.{AreOpsOf}
use Rattle.port_logic.proofs.OpLemmas.{ops_more, ops_none}
use Rattle.port_logic.proofs.op.ops_of.Goals as goal

pub tasks-preserved : goal.tasks-preserved
tasks-preserved g c =
    rw c.in_ok-push.ensures.ok
    (ops_more g.W.Word.is_pair g.W.Word.is_form c.args.slots c.args.tables.now c.args.tasks.now c.tasks.task-index c.tasks.ops _ c.op_of.result c.tasks.invariant
    (slice_get-get_or c.args.tasks.now c.tasks.task-index _ (omega (arith, c.tasks-test.true))) c.op_of.ensures)

pub tasks-init : goal.tasks-init
tasks-init g c = ops_none g.W.Word.is_pair g.W.Word.is_form c.args.slots c.args.tables.now c.args.tasks.now c.new-ops.result c.new-ops.ensures

pub op_of-requires-clause-forms : goal.op_of-requires-clause-forms
op_of-requires-clause-forms g c = c.requires.forms

pub op_of-requires-clause-within : goal.op_of-requires-clause-within
op_of-requires-clause-within g c = c.requires.within c.tasks.task-index _ (slice_get-get_or c.args.tasks.now c.tasks.task-index _ c.tasks-test.true)

pub op_of-requires-clause-tabled : goal.op_of-requires-clause-tabled
op_of-requires-clause-tabled g c = c.requires.tabled c.tasks.task-index _ (slice_get-get_or c.args.tasks.now c.tasks.task-index _ c.tasks-test.true)

pub returns : goal.returns
returns g c =
    subst (λ n. AreOpsOf g.W.Word.is_pair g.W.Word.is_form c.args.slots c.args.tables.now c.args.tasks.now n c.tasks.ops) (omega (arith, c.tasks-test.false, c.tasks.auto.task-index-end)) c.tasks.invariant
