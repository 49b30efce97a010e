use Rattle.std.proofs.Common.{Ok, Err, Result}
use Rattle.std.specs.Result.{OnOk}
use Rattle.rank_find.proofs.rank.Goals as goal

-- what holds anyway
anyway : {T E : Type 0} (r : Result T E) (P : Type 0) → P → OnOk r P
anyway (Ok x) P p = p
anyway (Err e) P p = tt

pub ranked-requires-clause-order : goal.ranked-requires-clause-order
ranked-requires-clause-order c = c.in_ok-order.ensures.order

pub returns-clause-acyclic : goal.returns-clause-acyclic
returns-clause-acyclic c = anyway _ _ c.in_ok-order.ensures.acyclic
