-- Without a file there is no list, and else the one that was read.
use Rattle.call_steps.specs.{Checks.IsFaultListOf, FileSteps.FaultsFrom}
use Rattle.call_steps.proofs.{RefusedLemmas.faults_refused, lemmas.StepLemmas.file_passes, lemmas.StepLemmas.file_refused, lemmas.StepLemmas.file_stops, lemmas.StepLemmas.gives, lemmas.StepLemmas.handed_on, lemmas.StepLemmas.passed_on, lemmas.StepLemmas.stopped}
use Rattle.call_steps.proofs.reading.faults_from.Goals as goal

pub returns-in-None-clause-step : goal.returns-in-None-clause-step
unfolding FaultsFrom
returns-in-None-clause-step g c = rw c.in-None.is gives

pub returns-in_err-text-in-Some-clause-step : goal.returns-in_err-text-in-Some-clause-step
unfolding FaultsFrom
returns-in_err-text-in-Some-clause-step g c =
    let text = rw c.as_bytes.ensures at c.in_err-text-in-Some.ensures.step in
    rw c.in-Some.is (handed_on _ _ c.from_residual.ensures (stopped (file_stops (λ text. IsFaultListOf text c.args.net.now) text)))

pub returns-in_err-faults-in-Some-clause-step : goal.returns-in_err-faults-in-Some-clause-step
unfolding FaultsFrom
returns-in_err-faults-in-Some-clause-step g c =
    let text = rw c.as_bytes.ensures at c.in_ok-text-in-Some.ensures.step in
    let answers = rw c.as_slice.ensures at c.in_err-faults-in-Some.ensures.answers in
    rw c.in-Some.is (handed_on _ _ c.from_residual-in_err-faults-in-Some.ensures (stopped (file_refused (λ text. IsFaultListOf text c.args.net.now) text (faults_refused c.in_ok-text-in-Some.text c.args.net.now _ answers))))

pub returns-in_ok-faults-in-Some-clause-step : goal.returns-in_ok-faults-in-Some-clause-step
unfolding FaultsFrom
returns-in_ok-faults-in-Some-clause-step g c =
    let text = rw c.as_bytes.ensures at c.in_ok-text-in-Some.ensures.step in
    let answers = rw c.as_slice.ensures at c.in_ok-faults-in-Some.ensures.answers in
    rw c.in-Some.is (passed_on (file_passes (λ text. IsFaultListOf text c.args.net.now) text answers.1) gives)
