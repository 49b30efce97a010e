-- Without a file of a list the timing is that of the words, and else the one with the list that was read.
use Rattle.std.proofs.Common.{◌≡◌, ◌∙◌, sym, ap, List, ℕ}
use Rattle.call_steps.specs.{Checks.IsListOf, FileSteps.TimingFrom}
use Rattle.call_steps.proofs.{RefusedLemmas.list_refused, lemmas.StepLemmas.file_passes, lemmas.StepLemmas.file_refused, lemmas.StepLemmas.file_stops, lemmas.StepLemmas.gives, lemmas.StepLemmas.handed_on, lemmas.StepLemmas.passed_on, lemmas.StepLemmas.stopped}
use Rattle.call_steps.proofs.reading.timing_from.Goals as goal

pub returns-in-None-clause-step : goal.returns-in-None-clause-step
unfolding TimingFrom
returns-in-None-clause-step g c =
    let same : c.args.words.now.timing ≡ c.listing.result = c.requires.range.unlisted ∙ ap (λ (listed : List ℕ). record c.args.words.now.timing { listed = listed }) (sym c.new.ensures) ∙ sym c.listing.ensures.is in
    rw (c.in-None.is, sym same) gives

pub returns-in_err-text-in-Some-clause-step : goal.returns-in_err-text-in-Some-clause-step
unfolding TimingFrom
returns-in_err-text-in-Some-clause-step g c =
    let text = rw c.as_bytes.ensures at c.in_err-text-in-Some.ensures.step in
    rw c.in-Some.is (handed_on _ _ c.from_residual.ensures (stopped (file_stops (λ text. IsListOf text c.args.net.now) text)))

pub returns-in_err-listed-in-Some-clause-step : goal.returns-in_err-listed-in-Some-clause-step
unfolding TimingFrom
returns-in_err-listed-in-Some-clause-step g c =
    let text = rw c.as_bytes.ensures at c.in_ok-text-in-Some.ensures.step in
    let answers = rw c.as_slice.ensures at c.in_err-listed-in-Some.ensures.answers in
    rw c.in-Some.is (handed_on _ _ c.from_residual-in_err-listed-in-Some.ensures (stopped (file_refused (λ text. IsListOf text c.args.net.now) text (list_refused c.in_ok-text-in-Some.text c.args.net.now _ answers))))

pub returns-in_ok-listed-in-Some-clause-step : goal.returns-in_ok-listed-in-Some-clause-step
unfolding TimingFrom
returns-in_ok-listed-in-Some-clause-step g c =
    let text = rw c.as_bytes.ensures at c.in_ok-text-in-Some.ensures.step in
    let answers = rw c.as_slice.ensures at c.in_ok-listed-in-Some.ensures.answers in
    rw (c.in-Some.is, c.listing-in-Some.ensures.is) (passed_on (file_passes (λ text. IsListOf text c.args.net.now) text answers.1) gives)
