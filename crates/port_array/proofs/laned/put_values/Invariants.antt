use Rattle.std.proofs.Common.{◌≡◌, ◌≢◌, ◌<◌, ℕ, get_or, length}
use Rattle.limits.specs.declared.TheConstants.{LANES}
use Rattle.logic_four.specs.declared.V4.TheVariants.{Undef}
use Rattle.port_array.specs.code.Rows.{lane_row}
use Rattle.port_array.proofs.laned.put_values.Given as goal

abbrev pub invariant-places : goal.invariant-places
invariant-places l = record {
  long : length l.planes ≡ length l.initial.planes;
  filled : (j : ℕ) → j < l.i → get_or (lane_row l.k l.planes) j Undef ≡ get_or l.values j Undef;
  others : (m : ℕ) → m < LANES → m ≢ l.k → lane_row m l.planes ≡ lane_row m l.initial.planes;
}
