use Rattle.call_steps.specs.Images.{IsImageFileOf}
use Rattle.call_steps.proofs.{RefusedLemmas.image_refused, lemmas.StepLemmas.file_passes, lemmas.StepLemmas.file_refused, lemmas.StepLemmas.file_stops, lemmas.StepLemmas.handed_on}
use Rattle.call_steps.proofs.reading.image_in.Goals as goal

pub returns-in_err-text-clause-step : goal.returns-in_err-text-clause-step
returns-in_err-text-clause-step g c = handed_on _ _ c.from_residual.ensures (file_stops IsImageFileOf c.in_err-text.ensures.step)

pub returns-in_err-image-clause-step : goal.returns-in_err-image-clause-step
returns-in_err-image-clause-step g c =
    let answers = rw c.as_slice.ensures at c.in_err-image.ensures.answers in
    handed_on _ _ c.from_residual-in_err-image.ensures (file_refused IsImageFileOf c.in_ok-text.ensures.step (image_refused c.in_ok-text.text _ answers))

pub returns-clause-step : goal.returns-clause-step
returns-clause-step g c =
    let answers = rw c.as_slice.ensures at c.in_ok-image.ensures.answers in
    file_passes IsImageFileOf c.in_ok-text.ensures.step answers.1
