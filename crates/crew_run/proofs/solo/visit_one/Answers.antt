use Rattle.std.proofs.{Common.arith, lemmas.Option.slice_get-get_or}
use Rattle.crew_run.proofs.SoloLemmas.{all_resumed_none, all_resumed_set}
use borrow.Author.Rules.{scaled_Fits}
use Rattle.crew_run.proofs.solo.visit_one.Goals as goal

pub returns-then-i-workers : goal.returns-then-i-workers
returns-then-i-workers g c = all_resumed_none g.S.Stepper g.G.Gate g.met.S.Stepper.reflexive _ c.requires

pub visit-requires : goal.visit-requires
visit-requires g c =
    let at = slice_get-get_or c.args.workers.now c.worker-i.result c.index-workers-i.result (omega (arith, c.if-i-workers.false)) in
    c.requires _ _ at

pub returns : goal.returns
returns g c =
    let at = slice_get-get_or c.args.workers.now c.worker-i.result c.index-workers-i.result (omega (arith, c.if-i-workers.false)) in
    all_resumed_set g.S.Stepper g.G.Gate g.met.S.Stepper.transitive _ _ _ _ _ (all_resumed_none g.S.Stepper g.G.Gate g.met.S.Stepper.reflexive _ c.requires) at c.visit.ensures

pub offset_bounds-workers-i : goal.offset_bounds-workers-i
offset_bounds-workers-i g c = scaled_Fits _ _ _ c.if-i-workers.false c.well_formed.0.1
