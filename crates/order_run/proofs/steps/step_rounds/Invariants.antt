use Rattle.order_run.specs.Core.{IsSameCore, IsSoundCore, left_of}
use Rattle.order_run.proofs.steps.step_rounds.Given as goal

abbrev pub invariant-rounds : goal.invariant-rounds
invariant-rounds l = record {
  same : IsSameCore l.fn.core l.core;
  sound : IsSoundCore l.core;
}

abbrev pub decreases-rounds : goal.decreases-rounds
decreases-rounds l = left_of l.core
