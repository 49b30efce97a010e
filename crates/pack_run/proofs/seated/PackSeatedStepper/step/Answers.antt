use Rattle.pack_run.proofs.StepLemmas.{step_done, step_moved, step_next, step_same, step_stays, step_waits, takes_turn}
use Rattle.pack_run.proofs.seated.PackSeatedStepper.step.Goals as goal

pub returns-clause-not_yet : goal.returns-clause-not_yet
returns-clause-not_yet c = step_waits _ _ c.step.result c.step.ensures.fit c.step.ensures.step

pub returns-clause-moved : goal.returns-clause-moved
returns-clause-moved c = step_moved _ _ c.step.result c.step.ensures.fit c.step.ensures.step

pub returns-clause-done : goal.returns-clause-done
returns-clause-done c = step_done c.args.self.now.run c.step.new.self c.step.result c.step.ensures.step

pub returns-clause-same : goal.returns-clause-same
returns-clause-same c = step_same c.args.self.now.run c.step.new.self c.args.self.now.bar.now c.step.result c.step.ensures.step

pub returns-clause-port : goal.returns-clause-port
returns-clause-port c = (step_next c.args.self.now.run c.step.new.self c.step.result c.step.ensures.step).port

pub returns-clause-tells : goal.returns-clause-tells
returns-clause-tells c = takes_turn c.args.self.now.run c.step.new.self

pub returns-clause-steps : goal.returns-clause-steps
returns-clause-steps c = (step_next c.args.self.now.run c.step.new.self c.step.result c.step.ensures.step).steps

pub returns-clause-stays : goal.returns-clause-stays
returns-clause-stays c = step_stays c.args.self.now.run c.step.new.self c.step.result c.step.ensures.step

pub returns-clause-last_turn : goal.returns-clause-last_turn
returns-clause-last_turn c = (step_same c.args.self.now.run c.step.new.self c.args.self.now.bar.now c.step.result c.step.ensures.step).last_turn
