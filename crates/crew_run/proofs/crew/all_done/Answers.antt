use Rattle.std.proofs.{Common.arith, Common.refl, lemmas.Option.slice_get_read, lemmas.Option.slice_get_within}
use Rattle.crew_run.specs.code.Phases.{AreDone}
use Rattle.crew_run.proofs.CrewLemmas.{below_more}
use Rattle.crew_run.proofs.crew.all_done.Goals as goal

pub is_done-requires : goal.is_done-requires
is_done-requires g c =
    c.requires c.workers.i c.index-workers-i.result (slice_get_read c.args.workers.now _ c.workers.i c.index-workers-i.result refl c.workers-test.true c.index-workers-i.is)

pub workers-preserved : goal.workers-preserved
workers-preserved g c =
    let at = slice_get_read c.args.workers.now _ c.workers.i c.index-workers-i.result refl c.workers-test.true c.index-workers-i.is in
    below_more (λ w. AreDone g.S.Stepper w.members) c.args.workers.now c.workers.i c.index-workers-i.result c.workers.invariant at c.if-not-is_done.ensures

pub returns : goal.returns
returns g c = λ i w at. c.workers.invariant i w (omega (arith, slice_get_within c.args.workers.now i w at, c.workers-test.false)) at
