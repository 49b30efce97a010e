use Rattle.std.proofs.Common.{◌≡◌, ◌<◌, ◌≤◌, ℕ, [], length, slice_index_or}
use Rattle.net_ops.specs.{Lanes.lane_row, Rams.ArePorts, code.States.HasActed}
use Rattle.net_ops.proofs.ram.edge_memories.Given as goal

abbrev pub invariant-lanes : goal.invariant-lanes
invariant-lanes g l = record {
  long : length l.row ≡ length l.fn.row;
  memories : length l.memories ≡ length l.fn.memories;
  done : (k : ℕ) → k < l.l → HasActed l.net (lane_row g.W.Wire.lane k l.fn.row) (lane_row g.W.Wire.lane k l.row) (slice_index_or l.fn.memories k []) (slice_index_or l.memories k []);
  left : (k : ℕ) → l.l ≤ k → k < g.W.Wire.lanes → lane_row g.W.Wire.lane k l.row ≡ lane_row g.W.Wire.lane k l.fn.row;
  kept : (k : ℕ) → l.l ≤ k → slice_index_or l.memories k [] ≡ slice_index_or l.fn.memories k [];
  ports : ArePorts l.net l.ports;
}
