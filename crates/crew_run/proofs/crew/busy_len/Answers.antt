use Rattle.std.proofs.Common.{[], arith, inl, inr, slice_get, Some, subst, ◌≡◌}
use Rattle.std.proofs.lemmas.{Bool.cases_lt, Option.get_or_from_slice_get, Option.slice_get_within}
use Rattle.crew_run.specs.declared.worker.Worker.{Worker}
use Rattle.crew_run.proofs.crew.busy_len.Goals as goal
use Rattle.crew_run.proofs.crew.busy_len.Goals.{then-not-is_empty, else-not-is_empty}

pub workers-preserved : goal.workers-preserved
workers-preserved g c = elim c.if-not-is_empty.branch [
  | then-not-is_empty b ↦ (omega (arith, b.busy-is), λ j w less past at. absurd (omega (arith, b.busy-is, less, past)))
  | else-not-is_empty b ↦ (
    omega (arith, b.busy-is, c.workers.invariant.0),
    λ j w less past at. elim (cases_lt j c.workers.i) [
      | inl low ↦ c.workers.invariant.1 j w low (omega (arith, b.busy-is, past)) at
      | inr high ↦
          let here : j ≡ c.workers.i = omega (arith, less, high) in
          subst (λ (x : Worker g.row.S.Denot g.row.G.Denot). x.members ≡ [])
          (get_or_from_slice_get c.args.workers.now c.workers.i w c.index-workers-i.result (subst (λ k. slice_get c.args.workers.now k ≡ Some w) here at))
          (c.is_empty.ensures.0 b.if-not-is_empty.false)
    ],
  )
]

pub returns-clause-idle : goal.returns-clause-idle
returns-clause-idle g c i w low at = c.workers.invariant.1 i w (omega (arith, slice_get_within c.args.workers.now i w at, c.workers-test.false)) low at
