-- What phases come to that follow one another, of all workers.
use Rattle.std.proofs.Common.{◌≡◌, ◌∙◌, ℕ, List, set, slice_get, Some, inl, inr, subst, sym, refl}
use Rattle.std.proofs.lemmas.{Bool.cases_eq, List.length-set, Option.slice_get_within}
use Rattle.list_laws.proofs.{Places.one_there, Members.beside, Members.set_same, Members.set_other, Options.one_some}
use Rattle.crew_run.specs.declared.gate.Gate as gate
use Rattle.crew_run.specs.declared.stepper.Stepper as stepper
use Rattle.crew_run.specs.code.Phases.{AreStepped, CanResume, Each, IsResumed}
use Rattle.crew_run.specs.declared.worker.Worker.{Worker}
use Rattle.crew_run.proofs.{PhaseLemmas.can_step_with, StepLemmas.can_step_kept, StepLemmas.stepped_more, StepLemmas.stepped_none}

module _ {S G : Type 0} (m : stepper.Ghosts S) (p : gate.Ghosts G) where
  -- a worker can resume after each phase
  pub resumed_can : (w w' : Worker S G) → CanResume m p w → IsResumed m p w w' → CanResume m p w'
  resumed_can w w' can h = record {
    gate = h.gate';
    gate_is = h.gate'_is;
    can = can_step_kept m p w.members w'.members h.gate h.gate' h.stepped (can_step_with m p w h.gate can h.gate_is);
  }

  pub all_resumed_can : (ws ws' : List (Worker S G)) → ((i : ℕ) (w : Worker S G) → slice_get ws i ≡ Some w → CanResume m p w) → Each (IsResumed m p) ws ws' → (i : ℕ) (w : Worker S G) → slice_get ws' i ≡ Some w → CanResume m p w
  all_resumed_can ws ws' can h i w at =
      let (old, was) = beside ws' ws i w (sym h.0) at in
      resumed_can old w (can i old was) (h.1 i old w was at)

module _ {S G : Type 0} (m : stepper.Ghosts S) (p : gate.Ghosts G) (reflexive : (a : S) → m.same a a) where
  resumed_none : (w : Worker S G) → CanResume m p w → IsResumed m p w w
  resumed_none w can = record { gate = can.gate; gate_is = can.gate_is; gate' = can.gate; gate'_is = can.gate_is; stepped = stepped_none m p reflexive w.members can.gate }

  -- no step is a phase too
  pub all_resumed_none : (ws : List (Worker S G)) → ((i : ℕ) (w : Worker S G) → slice_get ws i ≡ Some w → CanResume m p w) → Each (IsResumed m p) ws ws
  all_resumed_none ws can = (refl, λ i w w' at at'. subst (IsResumed m p w) (one_there ws i i w w' refl at at') (resumed_none w (can i w at)))

module _ {S G : Type 0} (m : stepper.Ghosts S) (p : gate.Ghosts G) (transitive : (a b c : S) → m.same a b → m.same b c → m.same a c) where
  pub resumed_more : (w w' w'' : Worker S G) → IsResumed m p w w' → IsResumed m p w' w'' → IsResumed m p w w''
  resumed_more w w' w'' h i = record {
    gate = h.gate;
    gate_is = h.gate_is;
    gate' = i.gate';
    gate'_is = i.gate'_is;
    stepped = stepped_more m p transitive w.members w'.members w''.members h.gate h.gate' i.gate' h.stepped again;
  } where
    again : AreStepped m p w'.members h.gate' w''.members i.gate'
    again = subst (λ g. AreStepped m p w'.members g w''.members i.gate') (one_some i.gate h.gate' (sym i.gate_is ∙ h.gate'_is)) i.stepped

  pub all_resumed_more : (ws ws' ws'' : List (Worker S G)) → Each (IsResumed m p) ws ws' → Each (IsResumed m p) ws' ws'' → Each (IsResumed m p) ws ws''
  all_resumed_more ws ws' ws'' h i = (
    i.0 ∙ h.0,
    λ k w w'' at at''. let (w', at') = beside ws ws' k w h.0 at in resumed_more w w' w'' (h.1 k w w' at at') (i.1 k w' w'' at' at''),
  )

  -- one worker more has made a phase
  pub all_resumed_set : (ws ws' : List (Worker S G)) (j : ℕ) (w w' : Worker S G) → Each (IsResumed m p) ws ws' → slice_get ws' j ≡ Some w → IsResumed m p w w' → Each (IsResumed m p) ws (set ws' j w')
  all_resumed_set ws ws' j w w' h at one = (length-set ws' j w' ∙ h.0, each) where
    each : (i : ℕ) (u v : Worker S G) → slice_get ws i ≡ Some u → slice_get (set ws' j w') i ≡ Some v → IsResumed m p u v
    each i u v here there = elim (cases_eq i j) [
      | inl same ↦ subst (IsResumed m p u) (one_there (set ws' j w') j i w' v (sym same) (set_same ws' j w' (slice_get_within ws' j w at)) there) (resumed_more u w w' (h.1 i u w here (subst (λ k. slice_get ws' k ≡ Some w) (sym same) at)) one)
      | inr away ↦ h.1 i u v here (sym (set_other ws' j i w' away) ∙ there)
    ]
