use Rattle.std.proofs.Common.{ap, set, arith}
use Rattle.cover_sim.proofs.WatchLemmas.{marked_none, marked_more}
use Rattle.cover_sim.proofs.watching.mark.Goals as goal

pub signals-init : goal.signals-init
signals-init c = record { marked = marked_none c.args.last.now c.args.row.now c.args.marks.now }

pub signals-preserved : goal.signals-preserved
signals-preserved c = record {
  marked = marked_more c.signals.s c.args.last.now c.args.row.now c.args.marks.now c.signals.marks _ _ _ c.signals-test.true (omega (arith, c.signals-test.true, c.requires.last)) (omega (arith, c.signals-test.true, c.requires.row))
      (ap (set c.signals.marks c.signals.s) c.marks_after.ensures) c.signals.invariant.marked;
}
