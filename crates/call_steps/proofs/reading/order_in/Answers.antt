use Rattle.call_steps.specs.Checks.{IsOrderOf}
use Rattle.call_steps.proofs.{RefusedLemmas.order_refused, lemmas.StepLemmas.file_passes, lemmas.StepLemmas.file_refused, lemmas.StepLemmas.file_stops, lemmas.StepLemmas.handed_on}
use Rattle.call_steps.proofs.reading.order_in.Goals as goal

pub returns-in_err-text-clause-step : goal.returns-in_err-text-clause-step
returns-in_err-text-clause-step g c = handed_on _ _ c.from_residual.ensures (file_stops (λ text. IsOrderOf text c.args.machine.now) c.in_err-text.ensures.step)

pub returns-in_err-order-clause-step : goal.returns-in_err-order-clause-step
returns-in_err-order-clause-step g c =
    let answers = rw c.as_slice.ensures at c.in_err-order.ensures.answers in
    handed_on _ _ c.from_residual-in_err-order.ensures (file_refused (λ text. IsOrderOf text c.args.machine.now) c.in_ok-text.ensures.step (order_refused c.in_ok-text.text c.args.machine.now _ answers))

pub returns-clause-step : goal.returns-clause-step
returns-clause-step g c =
    let answers = rw c.as_slice.ensures at c.in_ok-order.ensures.answers in
    file_passes (λ text. IsOrderOf text c.args.machine.now) c.in_ok-text.ensures.step answers.1
