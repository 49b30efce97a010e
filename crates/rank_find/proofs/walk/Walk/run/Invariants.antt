use Rattle.std.proofs.Common.{◌≢◌, ℕ, ◌<◌}
use Rattle.rank_find.specs.{declared.walk.Mark.TheVariants.Fresh, code.Walk.mark_at, code.Walk.IsIdle}
use Rattle.rank_find.proofs.walk.Walk.run.Given as goal

abbrev pub invariant-loop-root : goal.invariant-loop-root
invariant-loop-root l = record {
  idle : IsIdle l.net l.timing l.self;
  reached : (s : ℕ) → s < l.root → mark_at l.self.marks s ≢ Fresh;
}
