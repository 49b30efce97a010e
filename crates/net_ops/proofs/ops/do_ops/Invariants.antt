use Rattle.std.proofs.Common.{◌≡◌, ◌<◌, ℕ, length, take}
use Rattle.net_ops.specs.{Lanes.lane_row, Ops.follow}
use Rattle.net_ops.proofs.ops.do_ops.Given as goal

abbrev pub invariant-ops : goal.invariant-ops
invariant-ops g l = record {
  long : length l.row ≡ length l.fn.row;
  lanes : (k : ℕ) → k < g.W.Wire.lanes → lane_row g.W.Wire.lane k l.row ≡ follow g.W.Wire.answer (g.W.Wire.held l.forces k) (take l.op-index l.ops) (lane_row g.W.Wire.lane k l.fn.row);
}
