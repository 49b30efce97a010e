use Rattle.std.proofs.Common.{◌≡◌, ◌<◌, ℕ, length}
use Rattle.net_ops.specs.{Lanes.lane_row, code.States.AreBases}
use Rattle.net_ops.proofs.bases.set_bases.Given as goal

abbrev pub invariant-sources : goal.invariant-sources
invariant-sources g l = record {
  long : length l.row ≡ length l.fn.row;
  bases : (k : ℕ) → k < g.W.Wire.lanes
      → AreBases l.timing (g.W.Wire.held l.forces k) l.phase l.inputs (lane_row g.W.Wire.lane k l.fn.row) l.sources l.source-index (lane_row g.W.Wire.lane k l.row);
}
