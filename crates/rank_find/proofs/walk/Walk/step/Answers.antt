use Rattle.std.proofs.Common.{◌∙◌, sym, refl}
use Rattle.rank_find.proofs.StepLemmas.{top_within, top_place, closes, finished_step, entered_step, closed_loop}
use Rattle.rank_find.proofs.WalkLemmas.{fresh_within}
use Rattle.rank_find.proofs.walk.Walk.step.Goals as goal

pub bounds-as_slice-gate : goal.bounds-as_slice-gate
bounds-as_slice-gate c = rw c.as_slice.ensures (top_place _ _ _ _ c.requires.walking c.requires.top)

pub finish-requires : goal.finish-requires
finish-requires c = top_within _ _ _ _ c.requires.walking c.requires.top

pub bounds-operands-place : goal.bounds-operands-place
bounds-operands-place c = c.in-Some.ensures.some.within

pub set-requires : goal.set-requires
set-requires c = top_place _ _ _ _ c.requires.walking c.requires.top

pub enter-requires : goal.enter-requires
enter-requires c = fresh_within _ _ (sym c.in-Fresh.ensures)

pub circle_at-requires : goal.circle_at-requires
circle_at-requires c = rw c.as_slice-in_default.ensures (closes _ _ _ _ c.requires.walking c.requires.top _ _ _ c.waits_for-operands.ensures c.as_slice.ensures c.in-Some.ensures.some (λ fresh. c.in_default.not-Fresh (c.mark.ensures ∙ fresh)))

pub returns-in_ok-finish-in-None : goal.returns-in_ok-finish-in-None
returns-in_ok-finish-in-None c = finished_step _ _ _ _ c.requires.walking c.requires.top _ _ c.waits_for-operands.ensures c.as_slice.ensures (c.in-None.ensures.none refl) _ c.in_ok-finish-in-None.ensures

pub returns-in_ok-enter-in-Fresh : goal.returns-in_ok-enter-in-Fresh
returns-in_ok-enter-in-Fresh c = entered_step _ _ _ _ c.requires.walking c.requires.top _ _ _ _ c.waits_for-operands.ensures c.as_slice.ensures c.set.ensures c.in-Some.ensures.some (sym c.in-Fresh.ensures) _ c.in_ok-enter-in-Fresh.ensures

pub returns-in_ok-circle_at-in_default : goal.returns-in_ok-circle_at-in_default
returns-in_ok-circle_at-in_default c = closed_loop _ _ _ _ c.requires.walking c.requires.top _ _ _ c.waits_for-operands.ensures c.as_slice.ensures c.in-Some.ensures.some (λ fresh. c.in_default.not-Fresh (c.mark.ensures ∙ fresh)) _ _ c.as_slice-in_default.ensures c.in_ok-circle_at-in_default.ensures
