use Rattle.std.specs.{Prelude.take, List.flat_map}
use Rattle.order_run.specs.code.Stepped.{HasStepped}
use Rattle.order_run.proofs.StepLemmas.{line_steps}
use Rattle.order_run.proofs.steps.step_lines.Given as goal

abbrev pub invariant-lines : goal.invariant-lines
invariant-lines l = HasStepped l.fn.core l.core (flat_map line_steps (take l.l l.lines))
