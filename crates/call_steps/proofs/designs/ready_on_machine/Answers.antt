-- The design, and then its stimulus.
use Rattle.call_steps.proofs.lemmas.StepLemmas.{gives, handed_on, passed_on, stopped}
use Rattle.call_steps.proofs.designs.ready_on_machine.Goals as goal

pub returns-in_err-planned : goal.returns-in_err-planned
returns-in_err-planned g c = handed_on _ _ c.from_residual.ensures (stopped c.in_err-planned.ensures)

pub returns-in_err-stimulus : goal.returns-in_err-stimulus
returns-in_err-stimulus g c =
    let stimulus = rw c.as_bytes.ensures at c.in_err-stimulus.ensures.step in
    let placed = rw (← c.on_machine-design.ensures) at c.in_ok-planned.ensures in
    handed_on _ _ c.from_residual-in_err-stimulus.ensures (passed_on placed (rw (← c.design.view_is) (stopped stimulus)))

pub returns : goal.returns
returns g c =
    let stimulus = rw c.as_bytes.ensures at c.in_ok-stimulus.ensures.step in
    let placed = rw (← c.on_machine-design.ensures) at c.in_ok-planned.ensures in
    passed_on placed (rw (← c.design.view_is) (passed_on stimulus gives))
