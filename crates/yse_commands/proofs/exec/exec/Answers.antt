-- The image, the stimulus, and the run.
use Rattle.std.proofs.Common.{Some, None, refl, length}
use Rattle.yse_commands.specs.Told.{run_turns}
use Rattle.call_steps.proofs.lemmas.StepLemmas.{comes_to, out_of, passed_on, stopped}
use Rattle.yse_commands.proofs.lemmas.FollowLemmas.{silent_on}
use Rattle.yse_commands.proofs.exec.exec.Goals as goal

pub returns-in_err-run-clause-comes : goal.returns-in_err-run-clause-comes
returns-in_err-run-clause-comes g c = silent_on _ _ c.from_residual.ensures (stopped c.in_err-run.ensures.step)

pub returns-in_err-stimulus-clause-comes : goal.returns-in_err-stimulus-clause-comes
returns-in_err-stimulus-clause-comes g c =
    let stimulus = rw c.as_bytes.ensures at c.in_err-stimulus.ensures.step in
    silent_on _ _ c.from_residual-in_err-stimulus.ensures (passed_on c.in_ok-run.ensures.step (stopped stimulus))

pub returns-in-Ok-clause-comes : goal.returns-in-Ok-clause-comes
returns-in-Ok-clause-comes g c =
    let run = c.in_ok-run.run' in
    let stimulus = rw c.as_bytes.ensures at c.in_ok-stimulus.ensures.step in
    record {
      told = Some (run_turns (length run.image.ports) c.args.words.now run.timing run.net c.in_ok-stimulus.stimulus);
      follows = passed_on c.in_ok-run.ensures.step (passed_on stimulus (comes_to (_, c.in-Ok.ensures.printed, refl)));
      visits = c.in-Ok.ensures.visits;
    }

pub returns-in-Err-clause-comes : goal.returns-in-Err-clause-comes
returns-in-Err-clause-comes g c =
    let stimulus = rw c.as_bytes.ensures at c.in_ok-stimulus.ensures.step in
    record { told = None; follows = passed_on c.in_ok-run.ensures.step (passed_on stimulus out_of); visits = c.in-Err.ensures.refused }
