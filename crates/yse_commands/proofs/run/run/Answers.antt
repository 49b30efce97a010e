-- The design with its stimulus, and the run.
use Rattle.std.proofs.Common.{Some, None, refl}
use Rattle.machine_text.specs.Machines.{ports_of}
use Rattle.yse_commands.specs.Told.{run_turns}
use Rattle.call_steps.proofs.lemmas.StepLemmas.{comes_to, out_of, passed_on, stopped}
use Rattle.yse_commands.proofs.lemmas.FollowLemmas.{silent_on}
use Rattle.yse_commands.proofs.run.run.Goals as goal

pub returns-in_err-ready-clause-comes : goal.returns-in_err-ready-clause-comes
returns-in_err-ready-clause-comes g c = silent_on _ _ c.from_residual.ensures (stopped c.in_err-ready.ensures)

pub returns-in-Ok-clause-comes : goal.returns-in-Ok-clause-comes
returns-in-Ok-clause-comes g c =
    let ready = c.in_ok-ready.ready in
    record {
      told = Some (run_turns (ports_of ready.placed.machine) c.args.words.now ready.placed.timing ready.placed.net ready.stimulus);
      follows = passed_on c.in_ok-ready.ensures (comes_to (_, c.in-Ok.ensures.printed, refl));
      visits = c.in-Ok.ensures.visits;
    }

pub returns-in-Err-clause-comes : goal.returns-in-Err-clause-comes
returns-in-Err-clause-comes g c = record { told = None; follows = passed_on c.in_ok-ready.ensures out_of; visits = c.in-Err.ensures.refused }
