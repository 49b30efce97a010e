use Rattle.std.specs.Prelude.{Some, Option, length, slice_get, ℕ, ◌≡◌}
use Rattle.crew_run.specs.Crews.{CanTell}
use Rattle.yse.specs.declared.tests.watch.WatchGate.{WatchGate}
use Rattle.yse.specs.contracts.tests.watch.WatchGateGate.TheImpl as watch_gate
use Rattle.yse.proofs.tests.threads.watch_gates.Given as goal

abbrev pub invariant-gates : goal.invariant-gates
invariant-gates l = (length l.gates ≡ l.w) × ((i : ℕ) (gate : Option WatchGate) → slice_get l.gates i ≡ Some gate → CanTell watch_gate.ghosts gate)
