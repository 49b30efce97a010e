use Rattle.call_steps.proofs.checks.ordered.Goals as goal

pub returns-in-Ok-clause-order : goal.returns-in-Ok-clause-order
returns-in-Ok-clause-order c = c.in-Ok.ensures.order

pub returns-in-Ok-clause-acyclic : goal.returns-in-Ok-clause-acyclic
returns-in-Ok-clause-acyclic c = c.in-Ok.ensures.acyclic
