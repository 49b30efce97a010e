use Rattle.std.proofs.Common.{◌≡◌, ◌+◌, ◌++◌, map, take, drop}
use Rattle.net_defs.specs.Time.{value_at}
use Rattle.net_ops.specs.Lanes.{lane_row}
use Rattle.net_ops.proofs.values.gather.Given as goal

abbrev pub invariant-loop-k : goal.invariant-loop-k
invariant-loop-k g l = l.list ≡ map (λ s. value_at (lane_row g.W.Wire.lane l.l l.row) (l.base + s)) (take l.k l.signals) ++ drop l.k l.fn.list
