use Rattle.std.specs.Prelude.{Some, [], slice_get, ℕ, ◌<◌, ◌≡◌, ◌≤◌}
use Rattle.crew_run.specs.declared.worker.Worker.{Worker}
use Rattle.crew_run.proofs.crew.busy_len.Given as goal

abbrev pub invariant-workers : goal.invariant-workers
invariant-workers g l = (l.busy ≤ l.i) × ((j : ℕ) (w : Worker g.row.S.Denot g.row.G.Denot) → j < l.i → l.busy ≤ j → slice_get l.workers j ≡ Some w → w.members ≡ [])
