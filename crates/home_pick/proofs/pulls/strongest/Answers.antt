use Rattle.std.proofs.Common.{◌+◌, sym, subst, take, arith}
use Rattle.std.specs.{Prelude.slice_index, List.Contains}
use Rattle.home_pick.specs.code.Work.{room_in}
use Rattle.home_pick.proofs.TouchLemmas.{IsBest, best_before, strongest_is}
use Rattle.home_pick.proofs.pulls.strongest.Goals as goal

pub touched-preserved : goal.touched-preserved
touched-preserved c = record {
  at = c.touched.invariant.at;
  touched = c.touched.invariant.touched;
  best = subst (IsBest (slice_index c.as_slice-at.result.now) (room_in c.args.loads.now c.args.most.now) c.args.own (Contains (take (c.touched.k + 1) c.as_slice-touched.result.now))) (sym c.stronger-best.ensures.first)
      (best_before c.as_slice-at.result.now c.as_slice-touched.result.now (room_in c.args.loads.now c.args.most.now) c.args.own c.touched.best c.touched.k (omega arith) c.touched.invariant.best);
  within = c.stronger-best.ensures.within;
}

pub returns-clause-first : goal.returns-clause-first
returns-clause-first c = strongest_is c.args.pulls.now c.as_slice-at.result.now c.as_slice-touched.result.now (room_in c.args.loads.now c.args.most.now) c.args.own c.touched.best c.touched.k c.requires.touched c.touched.invariant.at c.touched.invariant.touched (omega arith) c.touched.invariant.best c.touched.invariant.within
