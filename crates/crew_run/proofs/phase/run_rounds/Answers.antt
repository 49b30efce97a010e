use Rattle.crew_run.proofs.StepLemmas.{can_step_kept, stepped_more}
use Rattle.crew_run.proofs.phase.run_rounds.Goals as goal

pub run_round-progress-requires : goal.run_round-progress-requires
run_round-progress-requires g c = can_step_kept g.S.Stepper g.G.Gate _ _ _ _ c.rounds.invariant c.requires

pub rounds-preserved : goal.rounds-preserved
rounds-preserved g c = stepped_more g.S.Stepper g.G.Gate g.met.S.Stepper.transitive _ _ _ _ _ _ c.rounds.invariant c.run_round-progress.ensures

pub returns-then-leaves : goal.returns-then-leaves
returns-then-leaves g c = stepped_more g.S.Stepper g.G.Gate g.met.S.Stepper.transitive _ _ _ _ _ _ c.rounds.invariant c.run_round-progress.ensures
