use Rattle.std.proofs.Common.{subst, sym, refl, arith}
use Rattle.port_walk.specs.{Stands.IsEnding, Walks.Walked}
use Rattle.port_walk.proofs.MoveLemmas.{at_here, can_end, told_enters, told_kept}
use Rattle.port_walk.proofs.KeptLemmas.{until_low}
use Rattle.port_walk.proofs.walk.Walk.told.Goals as goal

pub end_turn-requires-clause-end : goal.end_turn-requires-clause-end
end_turn-requires-clause-end g c =
    let kept = c.self.invariant in
    can_end g.W.Word _ kept _ (at_here g.W.Word kept _ refl) (subst (λ (view : Walked _). IsEnding view.stand) (sym c.self.view_is) c.requires.end)

pub enter-self-inside-requires : goal.enter-self-inside-requires
enter-self-inside-requires g c =
    told_enters g.W.Word c.self.invariant c.as_slice.result.now c.as_slice.ensures _ c.end_turn.ensures.view c.as_slice-2.result.now c.as_slice-2.ensures

pub invariant_of-self : goal.invariant_of-self
invariant_of-self g c =
    let ending = subst (λ (view : Walked _). IsEnding view.stand) (sym c.self.view_is) c.requires.end in
    told_kept g.W.Word c.self.invariant c.as_slice.result.now c.as_slice.ensures _ c.end_turn.ensures.view _ _ _ ending.early c.enter-self-inside.ensures.entered c.enter-self-inside.ensures.last

pub overflow_add-self : goal.overflow_add-self
overflow_add-self g c =
    let ending = subst (λ (view : Walked _). IsEnding view.stand) (sym c.self.view_is) c.requires.end in
    omega (arith, until_low g.W.Word g.met.W.Word.some _ c.self.invariant, ending.early)
