use Rattle.std.proofs.Common.{◌+◌, ◌∙◌, ap, arith, refl, subst, sym, Some, slice_get, ◌≡◌}
use Rattle.std.proofs.lemmas.Option.{slice_get_read}
use Rattle.crew_run.specs.Crews.{IsDone}
use Rattle.crew_run.proofs.CrewLemmas.{below_more}
use Rattle.crew_run.proofs.crew.is_done.Goals as goal

pub overflow_add-last_turn : goal.overflow_add-last_turn
overflow_add-last_turn g c =
    let at = slice_get_read c.as_slice-members.result.now _ c.members.k c.index-members-k.result refl c.members-test.true c.index-members-k.is in
    let small = c.requires c.members.k c.index-members-k.result (subst (λ xs. slice_get xs c.members.k ≡ Some c.index-members-k.result) c.as_slice-members.ensures at) in
    omega (arith, c.last_turn.ensures, small)

pub members-preserved : goal.members-preserved
members-preserved g c =
    let at = slice_get_read c.as_slice-members.result.now _ c.members.k c.index-members-k.result refl c.members-test.true c.index-members-k.is in
    below_more (IsDone g.S.Stepper) c.args.worker.now.members c.members.k c.index-members-k.result c.members.invariant
    (subst (λ xs. slice_get xs c.members.k ≡ Some c.index-members-k.result) c.as_slice-members.ensures at)
    (sym c.turn.ensures ∙ (c.if-turn-last_turn.false ∙ ap (λ n. n + 1) c.last_turn.ensures))
