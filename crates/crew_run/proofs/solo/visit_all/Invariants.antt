use Rattle.crew_run.specs.code.Phases.{Each, IsResumed}
use Rattle.crew_run.proofs.solo.visit_all.Given as goal

abbrev pub invariant-members : goal.invariant-members
invariant-members g l = Each (IsResumed g.S.Stepper g.G.Gate) l.initial.workers l.workers
