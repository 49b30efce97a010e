use Rattle.crew_run.proofs.StepLemmas.{stepped_none}
use Rattle.crew_run.proofs.phase.begin_rounds.Goals as goal

pub returns-then-alone : goal.returns-then-alone
returns-then-alone g c = stepped_none g.S.Stepper g.G.Gate g.met.S.Stepper.reflexive _ _
