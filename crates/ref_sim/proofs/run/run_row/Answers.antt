use Rattle.std.proofs.Common.{◌∙◌, ◌+◌, true, false, get_or, ap, refl, sym, subst, arith}
use Rattle.ref_sim.specs.code.Runs.{RunsTo, cycles_before}
use Rattle.ref_sim.proofs.CycleLemmas.{ready_to_look, cycle_more, cycles_more, cycle_values, cycle_within, still_first}
use Rattle.ref_sim.proofs.run.run_row.Goals as goal

pub times-init : goal.times-init
times-init g c = record {
  ready = c.requires.ready;
  lanes = refl;
  runs = subst (λ n. RunsTo g.W.Wire.lane (g.W.Wire.held c.args.course.now.forces.now) c.args.course.now.net.now c.args.course.now.timing.now c.args.course.now.stim.now (g.O.Observer.has_seen c.args.observer.now c.args.course.now.net.now) true n c.args.state.now) (omega arith) c.requires.runs;
  size = refl;
}

pub look-goes_on-requires-clause-ready : goal.look-goes_on-requires-clause-ready
look-goes_on-requires-clause-ready g c =
    let is = c.index-as_slice-r.is ∙ ap (λ rows. get_or rows c.args.r c.index-as_slice-r.result) c.as_slice.ensures in
    ready_to_look g.W.Wire.lane (g.W.Wire.held c.args.course.now.forces.now) c.args.course.now.net.now c.args.course.now.timing.now c.args.course.now.stim.now _ _ _ (cycle_within c.args.course.now.stim.now c.args.r c.times.time _ c.requires.row is c.times-test.true) c.times.invariant.runs

pub returns-then-not-goes_on-clause-runs : goal.returns-then-not-goes_on-clause-runs
returns-then-not-goes_on-clause-runs g c =
    let is = c.index-as_slice-r.is ∙ ap (λ rows. get_or rows c.args.r c.index-as_slice-r.result) c.as_slice.ensures in
    cycle_more g.W.Wire.lane (g.W.Wire.held c.args.course.now.forces.now) c.args.course.now.net.now c.args.course.now.timing.now c.args.course.now.stim.now _ _ c.times.state (cycle_within c.args.course.now.stim.now c.args.r c.times.time _ c.requires.row is c.times-test.true) c.times.invariant.runs
    c.run_cycle.new.state c.row.result.now c.run_cycle.ensures.lanes
    (λ l low. c.run_cycle.ensures.passes l low c.args.course.now.stim.now (cycles_before c.args.course.now.stim.now c.args.r + c.times.time) (c.is_still_first.ensures ∙ still_first c.args.is_first (cycles_before c.args.course.now.stim.now c.args.r) c.times.time c.requires.first)
    (cycle_values c.args.course.now.stim.now c.args.r c.times.time _ c.requires.row is c.times-test.true ∙ sym c.as_slice-in-times.ensures))
    _ false _ (λ on. cc) c.row.ensures c.look-goes_on.ensures.seen

pub times-preserved : goal.times-preserved
times-preserved g c =
    let is = c.index-as_slice-r.is ∙ ap (λ rows. get_or rows c.args.r c.index-as_slice-r.result) c.as_slice.ensures in
    record {
      ready = c.run_cycle.ensures.ready;
      lanes = c.run_cycle.ensures.lanes ∙ c.times.invariant.lanes;
      runs =
          cycle_more g.W.Wire.lane (g.W.Wire.held c.args.course.now.forces.now) c.args.course.now.net.now c.args.course.now.timing.now c.args.course.now.stim.now _ _ c.times.state (cycle_within c.args.course.now.stim.now c.args.r c.times.time _ c.requires.row is c.times-test.true) c.times.invariant.runs
          c.run_cycle.new.state c.row.result.now c.run_cycle.ensures.lanes
          (λ l low. c.run_cycle.ensures.passes l low c.args.course.now.stim.now (cycles_before c.args.course.now.stim.now c.args.r + c.times.time) (c.is_still_first.ensures ∙ still_first c.args.is_first (cycles_before c.args.course.now.stim.now c.args.r) c.times.time c.requires.first)
          (cycle_values c.args.course.now.stim.now c.args.r c.times.time _ c.requires.row is c.times-test.true ∙ sym c.as_slice-in-times.ensures))
          _ true _ (λ on. omega arith) c.row.ensures c.look-goes_on.ensures.seen;
      size = c.look-goes_on.ensures.size ∙ c.times.invariant.size;
    }

pub returns-clause-runs : goal.returns-clause-runs
returns-clause-runs g c =
    let is = c.index-as_slice-r.is ∙ ap (λ rows. get_or rows c.args.r c.index-as_slice-r.result) c.as_slice.ensures in
    subst (λ n. RunsTo g.W.Wire.lane (g.W.Wire.held c.args.course.now.forces.now) c.args.course.now.net.now c.args.course.now.timing.now c.args.course.now.stim.now (g.O.Observer.has_seen c.times.observer c.args.course.now.net.now) true n c.times.state)
    (omega (arith, c.times-test.false, c.times.auto.time-end, cycles_more c.args.course.now.stim.now c.args.course.now.stim.now.rows c.args.r _ refl c.requires.row is)) c.times.invariant.runs
