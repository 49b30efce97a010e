use Rattle.std.proofs.lemmas.Result.{IfOk-weaker}
use Rattle.order_run.proofs.{EndLemmas.all_shown, StepLemmas.same_sound}
use Rattle.order_run.proofs.steps.rows_by_rounds.Goals as goal

pub returns : goal.returns
returns c =
    let image = c.args.image.now in
    let stimulus = c.args.stimulus.now in
    let banks = c.args.banks in
    let last = c.step_rounds.new.core in
    let start = c.in_ok-core.ensures.start in
    let sound = same_sound image stimulus banks c.in_ok-core.core last start c.step_rounds.ensures.same c.step_rounds.ensures.sound in
    IfOk-weaker c.rows_of-rows.result _ _ (λ rows are. all_shown stimulus image c.requires.image banks c.in_ok-core.core last start c.step_rounds.ensures.same sound rows are c.step_rounds.ensures.done) c.rows_of-rows.ensures
