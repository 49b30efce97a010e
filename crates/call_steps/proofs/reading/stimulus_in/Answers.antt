use Rattle.call_steps.specs.Checks.{IsStimulusOf}
use Rattle.call_steps.proofs.{RefusedLemmas.stimulus_refused, lemmas.StepLemmas.file_passes, lemmas.StepLemmas.file_refused, lemmas.StepLemmas.file_stops, lemmas.StepLemmas.handed_on}
use Rattle.call_steps.proofs.reading.stimulus_in.Goals as goal

pub returns-in_err-text-clause-step : goal.returns-in_err-text-clause-step
returns-in_err-text-clause-step g c = handed_on _ _ c.from_residual.ensures (file_stops (λ text. IsStimulusOf text c.args.net.now) c.in_err-text.ensures.step)

pub returns-in_err-stimulus-clause-step : goal.returns-in_err-stimulus-clause-step
returns-in_err-stimulus-clause-step g c =
    let answers = rw (c.as_slice.ensures, c.inputs.ensures) at c.in_err-stimulus.ensures.answers in
    handed_on _ _ c.from_residual-in_err-stimulus.ensures (file_refused (λ text. IsStimulusOf text c.args.net.now) c.in_ok-text.ensures.step (stimulus_refused c.in_ok-text.text c.args.net.now _ answers))

pub returns-clause-step : goal.returns-clause-step
returns-clause-step g c =
    let answers = rw (c.as_slice.ensures, c.inputs.ensures) at c.in_ok-stimulus.ensures.answers in
    file_passes (λ text. IsStimulusOf text c.args.net.now) c.in_ok-text.ensures.step answers.1

pub returns-clause-columns : goal.returns-clause-columns
returns-clause-columns g c = rw c.inputs.ensures at c.in_ok-stimulus.ensures.columns
