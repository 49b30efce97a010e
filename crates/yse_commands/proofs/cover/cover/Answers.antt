-- The design, its loop, and the coverage.
use Rattle.call_steps.specs.Checks.{HasNoLoop}
use Rattle.call_steps.proofs.lemmas.StepLemmas.{passed_on, passes, refuses, stopped}
use Rattle.yse_commands.proofs.lemmas.FollowLemmas.{refused_on}
use Rattle.yse_commands.proofs.cover.cover.Goals as goal

pub returns-in_err-net-clause-expected : goal.returns-in_err-net-clause-expected
returns-in_err-net-clause-expected g c = refused_on _ _ c.from_residual.ensures (stopped c.in_err-net.ensures.step)

pub returns-in_err-design-clause-expected : goal.returns-in_err-design-clause-expected
returns-in_err-design-clause-expected g c = refused_on _ _ c.from_residual-in_err-design.ensures (passed_on c.in_ok-net.ensures.step (stopped (refuses (HasNoLoop c.in_ok-net.field-0.net c.in_ok-net.field-0.timing) c.in_err-design.ensures.looped)))

pub returns-clause-expected : goal.returns-clause-expected
returns-clause-expected g c = passed_on c.in_ok-net.ensures.step (passed_on (passes (HasNoLoop c.in_ok-net.field-0.net c.in_ok-net.field-0.timing) {x = tt} c.in_ok-design.ensures.acyclic) (rw c.in_ok-design.ensures.same at c.coverage_of.ensures.expected))
