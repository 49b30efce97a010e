-- The order, and what is done by its end.
use Rattle.call_steps.proofs.lemmas.StepLemmas.{comes_to, out_of, passed_on, stopped}
use Rattle.yse_commands.proofs.lemmas.FollowLemmas.{refused_on}
use Rattle.yse_commands.proofs.order.in_order.Goals as goal

pub returns-in_err-order-clause-expected : goal.returns-in_err-order-clause-expected
returns-in_err-order-clause-expected g c = refused_on _ _ c.from_residual.ensures (stopped c.in_err-order.ensures.step)

pub returns-in-Ok-clause-expected : goal.returns-in-Ok-clause-expected
returns-in-Ok-clause-expected g c = passed_on c.in_ok-order.ensures.step (comes_to c.in-Ok.ensures.ended)

pub returns-clause-expected : goal.returns-clause-expected
returns-clause-expected g c = passed_on c.in_ok-order.ensures.step out_of
