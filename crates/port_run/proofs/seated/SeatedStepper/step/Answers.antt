use Rattle.port_run.proofs.lemmas.StepLemmas.{run_waits}
use Rattle.port_run.proofs.seated.SeatedStepper.step.Goals as goal

pub returns-clause-not_yet : goal.returns-clause-not_yet
returns-clause-not_yet c = run_waits _ _ c.step.result c.step.ensures.fit c.step.ensures.step c.step.ensures.block
