use Rattle.std.proofs.Common.{◌≡◌, ℕ, ◌<◌, false}
use Rattle.fault_sim.specs.code.{Lanes.lane_row, Runs.differs_in}
use Rattle.fault_sim.proofs.look.first_column.Given as goal

abbrev pub invariant-columns : goal.invariant-columns
invariant-columns l = record {
  whole : l.printed ≡ l.net.printed;
  none : (i : ℕ) → i < l.j → differs_in l.net (lane_row 0 l.row) (lane_row l.at l.row) i ≡ false;
}
