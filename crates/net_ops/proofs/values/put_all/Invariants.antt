use Rattle.std.proofs.Common.{◌≡◌, ◌≢◌, ◌<◌, ℕ, length}
use Rattle.logic_four.specs.declared.V4.{V4}
use Rattle.net_ops.specs.{Lanes.lane_row, code.Values.IsStagedTo, code.Values.Puts}
use Rattle.net_ops.proofs.values.put_all.Given as goal

abbrev pub invariant-places : goal.invariant-places
invariant-places g l = record {
  signals : length l.row ≡ length l.fn.row;
  puts : (f : ℕ → V4) → IsStagedTo l.list f (length l.list) l.from → Puts l.list f l.k (lane_row g.W.Wire.lane l.l l.fn.row) (lane_row g.W.Wire.lane l.l l.row);
  others : (k : ℕ) → k < g.W.Wire.lanes → k ≢ l.l → lane_row g.W.Wire.lane k l.row ≡ lane_row g.W.Wire.lane k l.fn.row;
}
