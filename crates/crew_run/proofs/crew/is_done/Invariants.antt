use Rattle.std.specs.Prelude.{Some, slice_get, ℕ, ◌<◌, ◌≡◌}
use Rattle.crew_run.specs.Crews.{IsDone}
use Rattle.crew_run.proofs.crew.is_done.Given as goal

abbrev pub invariant-members : goal.invariant-members
invariant-members g l = (j : ℕ) (a : _) → j < l.k → slice_get l.worker.members j ≡ Some a → IsDone g.S.Stepper a
