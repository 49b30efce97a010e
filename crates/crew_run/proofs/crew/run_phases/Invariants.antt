use Rattle.crew_run.specs.code.Phases.{Each, HasBegun}
use Rattle.crew_run.proofs.crew.run_phases.Given as goal

abbrev pub invariant-phases : goal.invariant-phases
invariant-phases g l = Each (HasBegun g.S.Stepper g.G.Gate) l.fn.workers l.workers
