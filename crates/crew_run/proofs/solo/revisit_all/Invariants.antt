use Rattle.crew_run.specs.code.Phases.{Each, IsResumed}
use Rattle.crew_run.proofs.solo.revisit_all.Given as goal

abbrev pub invariant-visits : goal.invariant-visits
invariant-visits g l = Each (IsResumed g.S.Stepper g.G.Gate) l.initial.workers l.workers
