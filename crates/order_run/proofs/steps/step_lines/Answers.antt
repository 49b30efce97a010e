use Rattle.std.proofs.{Common.get_or, Common.refl, lemmas.List.get_or_default, lemmas.Option.slice_get-get_or}
use Rattle.order_run.proofs.StepLemmas.{stepped_none, stepped_line, stepped_rest, stepped_there}
use Rattle.order_run.proofs.steps.step_lines.Goals as goal

pub lines-init : goal.lines-init
lines-init c = stepped_none c.args.core.now

pub returns-then-all_done : goal.returns-then-all_done
returns-then-all_done c =
    stepped_rest c.args.core.now c.lines.core c.args.lines.now c.lines.l c.requires c.lines.invariant (c.if-all_done.ensures.0 refl)

pub repeat_step-requires : goal.repeat_step-requires
repeat_step-requires c =
    stepped_there c.args.core.now c.lines.core _ _ c.lines.invariant
    (c.requires c.lines.l (get_or c.args.lines.now c.lines.l (record { port = 0; times = 0 })) (slice_get-get_or c.args.lines.now c.lines.l (record { port = 0; times = 0 }) c.lines-test.true))

pub lines-preserved : goal.lines-preserved
lines-preserved c =
    let line = get_or c.args.lines.now c.lines.l (record { port = 0; times = 0 }) in
    stepped_line c.args.core.now c.lines.core c.repeat_step.new.core c.args.lines.now c.lines.l line
    (get_or_default c.args.lines.now c.lines.l (record { port = 0; times = 0 }) line c.lines-test.true) c.lines-test.true c.lines.invariant c.repeat_step.ensures
