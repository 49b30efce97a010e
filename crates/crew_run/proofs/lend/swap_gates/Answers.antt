use Rattle.std.proofs.Common.{length, subst, ◌<◌, ◌≡◌, arith}
use Rattle.std.proofs.lemmas.Option.{slice_get-get_or}
use borrow.Author.Rules.{scaled_Fits}
use Rattle.crew_run.specs.code.Lending.{AreSwapped}
use Rattle.crew_run.proofs.LendLemmas.{swapped_more, swapped_none}
use Rattle.crew_run.proofs.lend.swap_gates.Goals as goal

pub workers-preserved : goal.workers-preserved
workers-preserved g c =
    let in_workers : c.workers.i < length c.workers.workers = omega (arith, c.workers-test.true, c.workers.invariant.worker_count) in
    let in_gates : c.workers.i < length c.workers.gates = omega (arith, c.workers-test.true, c.workers.invariant.gate_count, c.requires) in
    rw (c.swap_gate.ensures.worker, c.swap_gate.ensures.gate) (swapped_more _ _ _ _ _ _ _ c.workers.invariant (slice_get-get_or c.workers.workers c.workers.i _ in_workers) (slice_get-get_or c.workers.gates c.workers.i _ in_gates))

pub returns : goal.returns
returns g c =
    let whole : c.workers.i ≡ length c.args.workers.now = omega (arith, c.workers-test.false, c.workers.auto.i-end) in
    subst (λ n. AreSwapped n c.args.workers.now c.args.gates.now c.workers.workers c.workers.gates) whole c.workers.invariant

pub workers-init : goal.workers-init
workers-init g c = swapped_none c.args.workers.now c.args.gates.now

pub offset_bounds-workers-i : goal.offset_bounds-workers-i
offset_bounds-workers-i g c = scaled_Fits _ _ _ c.workers-test.true c.well_formed.0.1

pub offset_bounds-gates-i : goal.offset_bounds-gates-i
offset_bounds-gates-i g c =
    let in_gates : c.workers.i < length c.args.gates.now = omega (arith, c.workers-test.true, c.requires) in
    scaled_Fits _ _ _ in_gates c.well_formed.1.0.1
