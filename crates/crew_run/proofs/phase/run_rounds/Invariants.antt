use Rattle.crew_run.specs.code.Phases.{AreStepped}
use Rattle.crew_run.proofs.phase.run_rounds.Given as goal

abbrev pub invariant-rounds : goal.invariant-rounds
invariant-rounds g l = AreStepped g.S.Stepper g.G.Gate l.initial.members l.initial.gate l.members l.gate
