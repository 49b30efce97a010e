use Rattle.std.specs.Prelude.{replicate}
use Rattle.order_run.specs.code.Stepped.{HasStepped}
use Rattle.order_run.proofs.steps.repeat_step.Given as goal

abbrev pub invariant-steps : goal.invariant-steps
invariant-steps l = HasStepped l.fn.core l.core (replicate l._step l.port)
