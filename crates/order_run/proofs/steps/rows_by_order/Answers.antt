use Rattle.std.proofs.{Common.◌*◌, lemmas.Result.IfOk-weaker}
use Rattle.net_defs.specs.Time.{cycle_count}
use Rattle.order_run.specs.Core.{state_of}
use Rattle.stim_text.specs.Orders.{steps_of}
use Rattle.order_run.proofs.{EndLemmas.rows_in_order, StepLemmas.first_steps}
use Rattle.order_run.proofs.steps.rows_by_order.Goals as goal

pub returns : goal.returns
returns c =
    let stepped = rw c.as_slice.ensures at c.step_lines.ensures in
    let image = c.args.image.now in
    let stimulus = c.args.stimulus.now in
    let banks = c.args.banks in
    let steps = steps_of c.args.order.now in
    IfOk-weaker c.rows_and_ending-made.result _ _ (λ made are. rows_in_order stimulus image c.requires.image banks c.in_ok-core.core c.step_lines.new.core c.in_ok-core.ensures.start stepped.same
    (c.steps_are_sound.ensures image stimulus banks (image.units * cycle_count stimulus) steps _ (state_of c.step_lines.new.core) c.requires.image c.requires.banks
    (first_steps image stimulus banks c.in_ok-core.core c.step_lines.new.core steps c.in_ok-core.ensures.start stepped))
    made.0 are.0 c.args.order.now made.1 stepped are.1) c.rows_and_ending-made.ensures
