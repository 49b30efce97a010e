use Rattle.std.proofs.Common.{◌∙◌, length, replicate, refl, ap, arith}
use Rattle.std.proofs.lemmas.List.{take_all}
use Rattle.std.specs.List.{flat_map}
use Rattle.ref_sim.proofs.CycleLemmas.{runs_none, watched_as}
use Rattle.ref_sim.proofs.run.run.Goals as goal

pub rows-init : goal.rows-init
rows-init g c = record {
  ready = c.requires.ready;
  lanes = refl;
  first = refl;
  runs = runs_none g.W.Wire.lane (g.W.Wire.held c.args.course.now.forces.now) c.args.course.now.net.now c.args.course.now.timing.now c.args.course.now.stim.now _ c.args.state.now c.requires.observer c.requires.start;
  size = refl;
}

pub returns-then-not-goes_on-clause-watched : goal.returns-then-not-goes_on-clause-watched
returns-then-not-goes_on-clause-watched g c =
    watched_as g.W.Wire.lane (g.W.Wire.held c.args.course.now.forces.now) c.args.course.now.net.now c.args.course.now.timing.now c.args.course.now.stim.now _ _ _ _ _ _ _ (c.run_row-goes_on.ensures.lanes ∙ c.rows.invariant.lanes)
    (λ on. let off = c.run_row-goes_on.ensures.stops c.if-not-goes_on.true in cc) c.run_row-goes_on.ensures.runs.watched

pub returns-clause-watched : goal.returns-clause-watched
returns-clause-watched g c =
    watched_as g.W.Wire.lane (g.W.Wire.held c.args.course.now.forces.now) c.args.course.now.net.now c.args.course.now.timing.now c.args.course.now.stim.now _ _ _ _ _ _ _ c.rows.invariant.lanes
    (λ on. (refl, ap (λ rows. length (flat_map (λ row. replicate row.times row.values) rows)) (take_all c.rows.r c.args.course.now.stim.now.rows (omega (arith, c.rows-test.false, c.len-r-end.ensures))))) c.rows.invariant.runs.watched
