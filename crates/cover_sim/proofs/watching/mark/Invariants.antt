use Rattle.cover_sim.specs.code.Watching.{AreMarkedTo}
use Rattle.cover_sim.proofs.watching.mark.Given as goal

abbrev pub invariant-signals : goal.invariant-signals
invariant-signals l = record {
  marked : AreMarkedTo l.s l.last l.row l.fn.marks l.marks;
}
