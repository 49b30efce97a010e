-- The stimulus, and the coverage.
use Rattle.std.proofs.Common.{refl}
use Rattle.call_steps.proofs.lemmas.StepLemmas.{comes_to, out_of, passed_on, stopped}
use Rattle.yse_commands.proofs.lemmas.FollowLemmas.{refused_on}
use Rattle.yse_commands.proofs.cover.coverage_of.Goals as goal

pub returns-in_err-stimulus-clause-expected : goal.returns-in_err-stimulus-clause-expected
returns-in_err-stimulus-clause-expected g c =
    let stimulus = rw c.as_bytes.ensures at c.in_err-stimulus.ensures.step in
    refused_on _ _ c.from_residual.ensures (stopped stimulus)

pub returns-in_err-lines-clause-expected : goal.returns-in_err-lines-clause-expected
returns-in_err-lines-clause-expected g c =
    let stimulus = rw c.as_bytes.ensures at c.in_ok-stimulus.ensures.step in
    refused_on _ _ c.from_residual-in_err-lines.ensures (passed_on stimulus out_of)

pub returns-clause-expected : goal.returns-clause-expected
returns-clause-expected g c =
    let stimulus = rw c.as_bytes.ensures at c.in_ok-stimulus.ensures.step in
    passed_on stimulus (comes_to (_, c.in_ok-lines.ensures, refl))
