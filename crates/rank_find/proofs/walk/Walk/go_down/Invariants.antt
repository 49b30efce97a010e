use Rattle.rank_find.specs.code.Walk.{work_left, IsWalking, Reaches}
use Rattle.rank_find.proofs.walk.Walk.go_down.Given as goal

abbrev pub invariant-loop-gate : goal.invariant-loop-gate
invariant-loop-gate l = record {
  walking : IsWalking l.net l.timing l.self;
  reaches : Reaches l.root l.fn.self l.self;
}

abbrev pub decreases-loop-gate : goal.decreases-loop-gate
decreases-loop-gate l = work_left l.self.marks l.self.path
