-- Without a file it is the default machine, and else that of its text.
use Rattle.call_steps.specs.{Checks.IsMachineOf, FileSteps.MachineFrom}
use Rattle.call_steps.proofs.{RefusedLemmas.machine_refused, lemmas.StepLemmas.file_passes, lemmas.StepLemmas.file_refused, lemmas.StepLemmas.file_stops, lemmas.StepLemmas.gives, lemmas.StepLemmas.handed_on}
use Rattle.call_steps.proofs.reading.machine_from.Goals as goal

pub returns-in-None-clause-step : goal.returns-in-None-clause-step
unfolding MachineFrom
returns-in-None-clause-step g c = rw (c.in-None.is, c.default_size.ensures.default) gives

pub returns-in_err-text-in-Some-clause-step : goal.returns-in_err-text-in-Some-clause-step
unfolding MachineFrom
returns-in_err-text-in-Some-clause-step g c =
    let text = rw c.as_bytes.ensures at c.in_err-text-in-Some.ensures.step in
    rw c.in-Some.is (handed_on _ _ c.from_residual.ensures (file_stops IsMachineOf text))

pub returns-in_err-machine-in-Some-clause-step : goal.returns-in_err-machine-in-Some-clause-step
unfolding MachineFrom
returns-in_err-machine-in-Some-clause-step g c =
    let text = rw c.as_bytes.ensures at c.in_ok-text-in-Some.ensures.step in
    let answers = rw c.as_slice.ensures at c.in_err-machine-in-Some.ensures.answers in
    rw c.in-Some.is (handed_on _ _ c.from_residual-in_err-machine-in-Some.ensures (file_refused IsMachineOf text (machine_refused c.in_ok-text-in-Some.text _ answers)))

pub returns-in_ok-machine-in-Some-clause-step : goal.returns-in_ok-machine-in-Some-clause-step
unfolding MachineFrom
returns-in_ok-machine-in-Some-clause-step g c =
    let text = rw c.as_bytes.ensures at c.in_ok-text-in-Some.ensures.step in
    let answers = rw c.as_slice.ensures at c.in_ok-machine-in-Some.ensures.answers in
    rw c.in-Some.is (file_passes IsMachineOf text answers.1)
