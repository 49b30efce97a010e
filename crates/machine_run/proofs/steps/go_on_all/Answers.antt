use Rattle.std.proofs.{Common.arith, Common.sym, Common.◌∙◌, lemmas.Option.slice_get-get_or}
use Rattle.machine_run.specs.code.Moves.{HaveGoneOn}
use Rattle.machine_run.proofs.MoveLemmas.{first_all, first_more}
use Rattle.machine_run.proofs.steps.go_on_all.Goals as goal

pub go_on_worker-requires : goal.go_on_worker-requires
go_on_worker-requires g c = λ k seat there.
    let at = slice_get-get_or c.workers.workers c.workers.w c.index-workers-w.result (omega (arith, c.workers-test.true, c.workers.invariant.count)) in
    c.requires c.workers.w k _ seat (sym (c.workers.invariant.others c.workers.w (omega arith)) ∙ at) there

pub workers-preserved : goal.workers-preserved
workers-preserved g c =
    let at = slice_get-get_or c.workers.workers c.workers.w c.index-workers-w.result (omega (arith, c.workers-test.true, c.workers.invariant.count)) in
    first_more (λ w w'. HaveGoneOn w.members w'.members) c.args.workers.now c.workers.w c.workers.workers _ c.go_on_worker.new.worker c.workers.invariant at c.go_on_worker.ensures

pub returns : goal.returns
returns g c = first_all (λ w w'. HaveGoneOn w.members w'.members) c.args.workers.now c.workers.w c.workers.workers c.workers.invariant (omega (arith, c.workers-test.false))
