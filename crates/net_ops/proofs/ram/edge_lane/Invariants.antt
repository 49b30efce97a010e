use Rattle.std.proofs.Common.{◌≡◌, ◌≢◌, ◌<◌, ℕ, length}
use Rattle.net_ops.specs.{Lanes.lane_row, code.Places.last_row, Rams.ArePorts, code.States.WroteMemories, code.States.Answers}
use Rattle.net_ops.proofs.ram.edge_lane.Given as goal

abbrev pub invariant-memories : goal.invariant-memories
invariant-memories g l = record {
  long : length l.row ≡ length l.fn.row;
  words : WroteMemories l.net (last_row l.net (lane_row g.W.Wire.lane l.l l.fn.row)) l.number l.fn.words l.words;
  answers : Answers l.net (record { row = last_row l.net (lane_row g.W.Wire.lane l.l l.fn.row); words = l.fn.words }) l.number (lane_row g.W.Wire.lane l.l l.fn.row) (lane_row g.W.Wire.lane l.l l.row);
  others : (k : ℕ) → k < g.W.Wire.lanes → k ≢ l.l → lane_row g.W.Wire.lane k l.row ≡ lane_row g.W.Wire.lane k l.fn.row;
  ports : ArePorts l.net l.ports;
}
