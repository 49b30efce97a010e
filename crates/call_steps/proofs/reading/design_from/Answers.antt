-- The netlist, and then its timing.
use Rattle.call_steps.proofs.lemmas.StepLemmas.{gives, handed_on, passed_on, stopped}
use Rattle.call_steps.proofs.reading.design_from.Goals as goal

pub returns-in_err-net-clause-step : goal.returns-in_err-net-clause-step
returns-in_err-net-clause-step g c =
    let net = rw c.as_bytes.ensures at c.in_err-net.ensures.step in
    handed_on _ _ c.from_residual.ensures (stopped net)

pub returns-in_err-timing-clause-step : goal.returns-in_err-timing-clause-step
returns-in_err-timing-clause-step g c =
    let net = rw c.as_bytes.ensures at c.in_ok-net.ensures.step in
    handed_on _ _ c.from_residual-in_err-timing.ensures (passed_on net (stopped c.in_err-timing.ensures.step))

pub returns-clause-step : goal.returns-clause-step
returns-clause-step g c =
    let net = rw c.as_bytes.ensures at c.in_ok-net.ensures.step in
    passed_on net (passed_on c.in_ok-timing.ensures.step gives)
