use Rattle.crew_run.specs.code.Phases.{Each, IsResumed}
use Rattle.crew_run.proofs.solo.run_solo.Given as goal

abbrev pub invariant-rounds : goal.invariant-rounds
invariant-rounds g l = Each (IsResumed g.S.Stepper g.G.Gate) l.initial.workers l.workers
