use Rattle.call_steps.specs.Checks.{IsLanesOf}
use Rattle.call_steps.proofs.{RefusedLemmas.lanes_refused, lemmas.StepLemmas.file_passes, lemmas.StepLemmas.file_refused, lemmas.StepLemmas.file_stops, lemmas.StepLemmas.handed_on}
use Rattle.call_steps.proofs.reading.lanes_in.Goals as goal

pub returns-in_err-text-clause-step : goal.returns-in_err-text-clause-step
returns-in_err-text-clause-step g c = handed_on _ _ c.from_residual.ensures (file_stops (λ text. IsLanesOf text c.args.net.now) c.in_err-text.ensures.step)

pub returns-in_err-lanes-clause-step : goal.returns-in_err-lanes-clause-step
returns-in_err-lanes-clause-step g c =
    let answers = rw (c.as_slice.ensures, c.inputs.ensures) at c.in_err-lanes.ensures.answers in
    handed_on _ _ c.from_residual-in_err-lanes.ensures (file_refused (λ text. IsLanesOf text c.args.net.now) c.in_ok-text.ensures.step (lanes_refused c.in_ok-text.text c.args.net.now _ answers))

pub returns-clause-step : goal.returns-clause-step
returns-clause-step g c =
    let answers = rw (c.as_slice.ensures, c.inputs.ensures) at c.in_ok-lanes.ensures.answers in
    file_passes (λ text. IsLanesOf text c.args.net.now) c.in_ok-text.ensures.step answers.1

pub returns-clause-lanes : goal.returns-clause-lanes
returns-clause-lanes g c = rw c.inputs.ensures at c.in_ok-lanes.ensures.lanes
