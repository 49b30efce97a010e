use Rattle.std.specs.Prelude.{Some, slice_get, ℕ, ◌<◌, ◌≡◌}
use Rattle.crew_run.specs.{declared.worker.Worker.Worker, code.Phases.AreDone}
use Rattle.crew_run.proofs.crew.all_done.Given as goal

abbrev pub invariant-workers : goal.invariant-workers
invariant-workers g l = (j : ℕ) (w : Worker g.row.S.Denot g.row.G.Denot) → j < l.i → slice_get l.workers j ≡ Some w → AreDone g.S.Stepper w.members
