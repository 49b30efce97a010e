use Rattle.pack_run.proofs.seated.PackSeatedStepper.last_turn.Goals as goal

pub returns : goal.returns
returns c = c.last_turn.ensures
