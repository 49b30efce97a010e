use Rattle.std.proofs.Common.{◌≡◌, replicate}
use Rattle.net_ops.specs.code.States.{initial_memories}
use Rattle.net_ops.proofs.initial.lane_memories.Given as goal

abbrev pub invariant-lanes : goal.invariant-lanes
invariant-lanes l = l.memories ≡ replicate l._lane (initial_memories l.net l.v)
