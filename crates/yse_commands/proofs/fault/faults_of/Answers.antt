-- The number of signals, the list of faults, and the rest.
use Rattle.call_steps.specs.Checks.{HasFewSignals}
use Rattle.call_steps.proofs.lemmas.StepLemmas.{passed_on, passes, refuses, stopped}
use Rattle.yse_commands.proofs.lemmas.FollowLemmas.{refused_on}
use Rattle.yse_commands.proofs.fault.faults_of.Goals as goal

pub returns-in_err-few_signals-clause-expected : goal.returns-in_err-few_signals-clause-expected
returns-in_err-few_signals-clause-expected g c = refused_on _ _ c.from_residual.ensures (stopped (refuses (HasFewSignals c.args.design.now.net) c.in_err-few_signals.ensures))

pub returns-in_err-listed-clause-expected : goal.returns-in_err-listed-clause-expected
returns-in_err-listed-clause-expected g c = refused_on _ _ c.from_residual-in_err-listed.ensures (passed_on (passes (HasFewSignals c.args.design.now.net) {x = tt} c.in_ok-few_signals.ensures) (stopped c.in_err-listed.ensures.step))

pub returns-clause-expected : goal.returns-clause-expected
returns-clause-expected g c = passed_on (passes (HasFewSignals c.args.design.now.net) {x = tt} c.in_ok-few_signals.ensures) (passed_on c.in_ok-listed.ensures.step c.listed_of.ensures.expected)
