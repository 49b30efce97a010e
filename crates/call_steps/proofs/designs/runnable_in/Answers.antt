-- The netlist, and then the image.
use Rattle.call_steps.proofs.lemmas.StepLemmas.{gives, handed_on, passed_on, stopped}
use Rattle.call_steps.proofs.designs.runnable_in.Goals as goal

pub returns-in_err-net-clause-step : goal.returns-in_err-net-clause-step
returns-in_err-net-clause-step g c = handed_on _ _ c.from_residual.ensures (stopped c.in_err-net.ensures.step)

pub returns-in_err-net-2-clause-step : goal.returns-in_err-net-2-clause-step
returns-in_err-net-2-clause-step g c = handed_on _ _ c.from_residual-in_err-net-2.ensures (passed_on c.in_ok-net.ensures.step (stopped c.in_err-net-2.ensures.step))

pub returns-clause-step : goal.returns-clause-step
returns-clause-step g c = passed_on c.in_ok-net.ensures.step (passed_on c.in_ok-net-2.ensures.step gives)
