use Rattle.std.specs.Prelude.{Option, Some, length, slice_get, ℕ, ◌≡◌}
use Rattle.crew_run.specs.declared.count_gate.CountGate.{CountGate}
use Rattle.machine_run.specs.Gates.{IsNew}
use Rattle.machine_run.proofs.gates.count_gates.Given as goal

abbrev pub invariant-gates : goal.invariant-gates
invariant-gates l = (length l.gates ≡ l.counter) × ((i : ℕ) (gate : Option CountGate) → slice_get l.gates i ≡ Some gate → IsNew gate)
