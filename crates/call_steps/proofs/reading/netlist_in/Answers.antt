use Rattle.call_steps.specs.Checks.{IsNetlistOf}
use Rattle.call_steps.proofs.{RefusedLemmas.netlist_refused, lemmas.StepLemmas.file_passes, lemmas.StepLemmas.file_refused, lemmas.StepLemmas.file_stops, lemmas.StepLemmas.handed_on}
use Rattle.call_steps.proofs.reading.netlist_in.Goals as goal

pub returns-in_err-text-clause-step : goal.returns-in_err-text-clause-step
returns-in_err-text-clause-step g c = handed_on _ _ c.from_residual.ensures (file_stops IsNetlistOf c.in_err-text.ensures.step)

pub returns-in_err-net-clause-step : goal.returns-in_err-net-clause-step
returns-in_err-net-clause-step g c =
    let answers = rw c.as_slice-bytes.ensures at c.in_err-net.ensures.answers in
    handed_on _ _ c.from_residual-in_err-net.ensures (file_refused IsNetlistOf c.in_ok-text.ensures.step (netlist_refused c.in_ok-text.text _ answers))

pub returns-clause-step : goal.returns-clause-step
returns-clause-step g c =
    let answers = rw c.as_slice-bytes.ensures at c.in_ok-net.ensures.answers in
    file_passes IsNetlistOf c.in_ok-text.ensures.step answers.1

pub returns-clause-valid : goal.returns-clause-valid
returns-clause-valid g c = c.reads_as_valid.ensures c.in_ok-net.ensures.answers.1
