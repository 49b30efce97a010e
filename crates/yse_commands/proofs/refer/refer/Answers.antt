-- The netlist, its loop, the stimulus, and the trace.
use Rattle.call_steps.specs.Checks.{HasNoLoop}
use Rattle.call_steps.proofs.lemmas.StepLemmas.{here, passed_on, passes, refuses, stopped}
use Rattle.yse_commands.proofs.lemmas.FollowLemmas.{refused_on}
use Rattle.yse_commands.proofs.refer.refer.Goals as goal

pub returns-in_err-net-clause-expected : goal.returns-in_err-net-clause-expected
returns-in_err-net-clause-expected g c = refused_on _ _ c.from_residual.ensures (stopped c.in_err-net.ensures.step)

pub returns-in_err-design-clause-expected : goal.returns-in_err-design-clause-expected
returns-in_err-design-clause-expected g c = refused_on _ _ c.from_residual-in_err-design.ensures (passed_on c.in_ok-net.ensures.step (stopped (refuses (HasNoLoop c.in_ok-net.field-0.net c.in_ok-net.field-0.timing) c.in_err-design.ensures.looped)))

pub returns-in_err-stimulus-clause-expected : goal.returns-in_err-stimulus-clause-expected
returns-in_err-stimulus-clause-expected g c =
    let stimulus = rw c.in_ok-design.ensures.same at (rw c.as_bytes.ensures at c.in_err-stimulus.ensures.step) in
    refused_on _ _ c.from_residual-in_err-stimulus.ensures (passed_on c.in_ok-net.ensures.step (passed_on (passes (HasNoLoop c.in_ok-net.field-0.net c.in_ok-net.field-0.timing) {x = tt} c.in_ok-design.ensures.acyclic) (stopped stimulus)))

pub returns-clause-expected : goal.returns-clause-expected
returns-clause-expected g c =
    let same = c.in_ok-design.ensures.same in
    let stimulus = rw same at (rw c.as_bytes.ensures at c.in_ok-stimulus.ensures.step) in
    passed_on c.in_ok-net.ensures.step (passed_on (passes (HasNoLoop c.in_ok-net.field-0.net c.in_ok-net.field-0.timing) {x = tt} c.in_ok-design.ensures.acyclic) (passed_on stimulus (here _ _ _ (rw same at c.kept.ensures.expected))))
