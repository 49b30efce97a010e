use Rattle.order_run.proofs.StepLemmas.{same_then}
use Rattle.order_run.proofs.steps.step_rounds.Goals as goal

pub rounds-preserved : goal.rounds-preserved
rounds-preserved c = record {
  same = same_then c.args.core.now c.rounds.core c.run_round.new.self c.rounds.invariant.same c.run_round.ensures.round.same;
  sound = c.run_round.ensures.sound;
}
