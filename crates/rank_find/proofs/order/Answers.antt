use Rattle.rank_find.proofs.lemmas.Exclusion.{acyclic}
use Rattle.rank_find.proofs.order.Goals as goal

pub returns-in-Ok-Order-clause-acyclic : goal.returns-in-Ok-Order-clause-acyclic
returns-in-Ok-Order-clause-acyclic c =
    let found = rw c.in-Ok-Order.field-0-is at c.in-Ok-Order.ensures in
    acyclic _ _ _ found.0

pub returns-in-Ok-Loop-clause-order : goal.returns-in-Ok-Loop-clause-order
returns-in-Ok-Loop-clause-order c = tt

pub returns-in-Ok-Loop-clause-few : goal.returns-in-Ok-Loop-clause-few
returns-in-Ok-Loop-clause-few c = tt

pub returns-in-Ok-Loop-clause-acyclic : goal.returns-in-Ok-Loop-clause-acyclic
returns-in-Ok-Loop-clause-acyclic c = tt

pub returns-in-Ok-Loop-clause-looped : goal.returns-in-Ok-Loop-clause-looped
returns-in-Ok-Loop-clause-looped c = rw c.in-Ok-Loop.field-0-is at c.in-Ok-Loop.ensures
