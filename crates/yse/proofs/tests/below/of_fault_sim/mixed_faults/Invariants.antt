use Rattle.std.specs.Prelude.{All, length, ◌≡◌}
use Rattle.fault_sim.specs.Faults.{IsFault}
use Rattle.yse.proofs.tests.below.of_fault_sim.mixed_faults.Given as goal

abbrev pub invariant-faults : goal.invariant-faults
invariant-faults l = (length l.faults ≡ l.k) × All (IsFault l.net) l.faults
