use Rattle.std.proofs.Common.{◌≡◌, ◌<◌, ◌≤◌, ℕ, length}
use Rattle.wide_planes.specs.declared.TheConstants.{WIDE_LANES}
use Rattle.logic_four.specs.declared.V4.TheVariants.{Undef}
use Rattle.fault_sim.specs.code.Lanes.{force_at, wide_row}
use Rattle.net_defs.specs.Time.{value_at}
use Rattle.fault_sim.proofs.ForceLemmas.{HasFree}
use Rattle.fault_sim.proofs.force.make_forces.Given as goal

abbrev pub invariant-faults : goal.invariant-faults
invariant-faults l = record {
  signals : length l.planes ≡ length l.net.signals;
  flags : length l.stuck ≡ length l.net.signals;
  each : (j : ℕ) → j ≤ l.k → (s : ℕ) → value_at (wide_row j l.planes) s ≡ force_at l.faults j s;
  left : (j : ℕ) → l.k < j → j < WIDE_LANES → (s : ℕ) → value_at (wide_row j l.planes) s ≡ Undef;
  free : HasFree l.planes l.stuck;
}
