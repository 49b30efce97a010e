use Rattle.std.proofs.Common.{◌<◌, ◌^◌, ℕ}
use Rattle.std.specs.Int.{bit_at}
use Rattle.limits.specs.declared.TheConstants.{LANES}
use Rattle.lane_planes.proofs.lemmas.LaneLemmas.{bits}
use Rattle.lane_planes.proofs.lanes.in_each_lane.Given as goal

abbrev pub invariant-lanes : goal.invariant-lanes
invariant-lanes g l = record {
  low : l.low < 2 ^ LANES;
  high : l.high < 2 ^ LANES;
  each : (j : ℕ) → j < l.k → goal.F-post g l.f j (bits (bit_at l.low j) (bit_at l.high j));
}
