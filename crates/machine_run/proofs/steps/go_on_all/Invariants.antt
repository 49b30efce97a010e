use Rattle.machine_run.specs.code.Moves.{AreFirst, HaveGoneOn}
use Rattle.machine_run.proofs.steps.go_on_all.Given as goal

abbrev pub invariant-workers : goal.invariant-workers
invariant-workers g l = AreFirst (λ w w'. HaveGoneOn w.members w'.members) l.w l.fn.workers l.workers
