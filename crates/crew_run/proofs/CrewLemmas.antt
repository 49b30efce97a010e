-- What holds of each worker holds of all.
use Rattle.std.proofs.Common.{◌≡◌, ◌∙◌, ◌++◌, ◌+◌, ◌-◌, ◌<◌, ◌≤◌, ℕ, List, [], length, get_or, slice_get, Some, inl, inr, ap, subst, sym, refl, arith, length-append}
use Rattle.std.proofs.lemmas.{Bool.cases_lt, Option.get_or_from_slice_get, Option.slice_get_within}
use Rattle.list_laws.proofs.{Places.at_front, Places.one_there, Places.slice_past, Members.beside, Options.one_some}
use Rattle.crew_run.specs.declared.gate.Gate as gate
use Rattle.crew_run.specs.declared.stepper.Stepper as stepper
use Rattle.crew_run.specs.code.Phases.{AreDone, CanResume, Each, HasBegun, IsResumed}
use Rattle.crew_run.specs.{declared.worker.Worker.Worker, Crews.AllCanRun, Crews.AllHaveRun, Crews.HasRun}
use Rattle.crew_run.proofs.{PhaseLemmas.begun_resumed, PhaseLemmas.can_resume, PhaseLemmas.has_run, StepLemmas.untold_none}

-- what holds of all before a place and of the one that stands there holds of all before the next place
pub below_more : {X : Type 0} (P : X → Type 0) (xs : List X) (n : ℕ) (x : X) → ((j : ℕ) (y : X) → j < n → slice_get xs j ≡ Some y → P y) → slice_get xs n ≡ Some x → P x → (j : ℕ) (y : X) → j < n + 1 → slice_get xs j ≡ Some y → P y
below_more P xs n x before at here j y less is = elim (cases_lt j n) [
  | inl low ↦ before j y low is
  | inr high ↦ subst P (one_there xs n j x y (omega (arith, less, high)) at is) here
]

-- what leads from what stands at each place to what stands there in another list of the same length
pub each_place : {W : Type 0} (R : W → W → Type 0) (ws ws' : List W) → length ws' ≡ length ws → ((i : ℕ) (d : W) → i < length ws → R (get_or ws i d) (get_or ws' i d)) → Each R ws ws'
each_place R ws ws' count at = (
  count,
  λ i w w' here there.
      subst (R w) (get_or_from_slice_get ws' i w' w there) (subst (λ v. R v (get_or ws' i w)) (get_or_from_slice_get ws i w w here) (at i w (slice_get_within ws i w here))),
)

module _ {S G : Type 0} (m : stepper.Ghosts S) (p : gate.Ghosts G) where
  -- where there is no worker all have run
  pub none_have_run : (ws : List (Worker S G)) → length ws ≡ 0 → AllHaveRun m p ws ws
  none_have_run ws none = (refl, λ i w w' at at'. absurd (omega (arith, slice_get_within ws i w at, none)))

  pub all_can_resume : (ws ws' : List (Worker S G)) → AllCanRun m p ws → Each (HasBegun m p) ws ws' → (i : ℕ) (w : Worker S G) → slice_get ws' i ≡ Some w → CanResume m p w
  all_can_resume ws ws' can begun i w at =
      let (old, was) = beside ws' ws i w (sym begun.0) at in
      can_resume m p old w (can i old was) (begun.1 i old w was at)

  pub all_have_run : (ws ws' : List (Worker S G)) → AllCanRun m p ws → Each (HasBegun m p) ws ws' → ((i : ℕ) (w : Worker S G) → slice_get ws' i ≡ Some w → AreDone m w.members) → AllHaveRun m p ws ws'
  all_have_run ws ws' can begun done = (begun.0, λ i w w' at at'. has_run m p w w' (can i w at) (begun.1 i w w' at at') (done i w' at'))

module _ {S G : Type 0} (m : stepper.Ghosts S) (p : gate.Ghosts G) (transitive : (a b c : S) → m.same a b → m.same b c → m.same a c) where
  pub all_begun_resumed : (ws ws' ws'' : List (Worker S G)) → Each (HasBegun m p) ws ws' → Each (IsResumed m p) ws' ws'' → Each (HasBegun m p) ws ws''
  all_begun_resumed ws ws' ws'' begun resumed = (
    resumed.0 ∙ begun.0,
    λ i w w'' at at''. let (w', at') = beside ws ws' i w begun.0 at in begun_resumed m p transitive w w' w'' (begun.1 i w w' at at') (resumed.1 i w' w'' at' at''),
  )

module _ {S G : Type 0} (m : stepper.Ghosts S) (p : gate.Ghosts G) where
  -- a worker without a member has run as it stands
  pub idle_has_run : (w : Worker S G) → w.members ≡ [] → HasRun m p w w
  idle_has_run w none = record {
    count = refl;
    done = λ k b at. absurd (nobody k b at);
    same = λ k a b at at'. absurd (nobody k a at);
    visits = λ g is. (g, is, record { told = λ k a at. absurd (nobody k a at); elsewhere = λ q away. untold_none p q g });
  } where
    nobody : (k : ℕ) (a : S) → slice_get w.members k ≡ Some a → ⊥
    nobody k a at = omega (arith, slice_get_within w.members k a at, ap length none)

  -- so it is enough to run those up to the last that has a member
  pub rest_has_run : (front rest front' : List (Worker S G)) → AllHaveRun m p front front' → ((i : ℕ) (w : Worker S G) → length front ≤ i → slice_get (front ++ rest) i ≡ Some w → w.members ≡ []) → AllHaveRun m p (front ++ rest) (front' ++ rest)
  rest_has_run front rest front' run idle = (omega (arith, length-append front rest, length-append front' rest, run.0), each) where
    past : (i : ℕ) (w w' : Worker S G) → length front ≤ i → slice_get (front ++ rest) i ≡ Some w → slice_get (front' ++ rest) i ≡ Some w' → w ≡ w'
    past i w w' high at at' =
        let k = i - length front in
        let here : i ≡ length front + k = omega (arith, high) in
        let there : i ≡ length front' + k = omega (arith, high, run.0) in
        one_some w w' (sym (subst (λ j. slice_get (front ++ rest) j ≡ Some w) here at) ∙ (slice_past front rest k ∙ (sym (slice_past front' rest k) ∙ subst (λ j. slice_get (front' ++ rest) j ≡ Some w') there at')))

    each : (i : ℕ) (w w' : Worker S G) → slice_get (front ++ rest) i ≡ Some w → slice_get (front' ++ rest) i ≡ Some w' → HasRun m p w w'
    each i w w' at at' = elim (cases_lt i (length front)) [
      | inl low ↦ run.1 i w w' (sym (at_front front rest i low) ∙ at) (sym (at_front front' rest i (omega (arith, low, run.0))) ∙ at')
      | inr high ↦ subst (HasRun m p w) (past i w w' high at at') (idle_has_run w (idle i w high at))
    ]
