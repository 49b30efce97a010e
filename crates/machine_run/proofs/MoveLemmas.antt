-- Members that move one by one, and what is dealt once all have moved.
use Rattle.std.proofs.Common.{List, Option, Some, ap, arith, inl, inr, length, refl, set, slice_get, subst, sym, ℕ, ◌%◌, ◌+◌, ◌<◌, ◌∙◌, ◌≡◌, ◌≤◌}
use Rattle.std.proofs.lemmas.{Bool.cases_eq, List.length-set, Option.slice_get_within}
use Rattle.crew_run.proofs.lemmas.Places.{beside, member_at, one_some, set_other, set_same}
use Rattle.crew_run.specs.{Crews.HasRun, Lending.AllHaveRunWith, Lending.lent, code.Phases.Each, declared.worker.Worker.Worker}
use Rattle.crew_run.specs.declared.gate.Gate as gate
use Rattle.crew_run.specs.declared.stepper.Stepper as stepper
use Rattle.machine_run.specs.{Dealt.AreDealtFrom, Dealt.HasPortOf, Dealt.IsMember, code.Moves.AreFirst, code.Moves.AreMoved, code.Moves.HasEnded}

module _ {X : Type 0} (R : X → X → Type 0) (xs : List X) where
  pub first_none : AreFirst R 0 xs xs
  first_none = record { count = refl; moved = λ i x x' low. absurd (omega (arith, low)); others = λ i past. refl }

  pub first_more : (n : ℕ) (ys : List X) (y y' : X) → AreFirst R n xs ys → slice_get ys n ≡ Some y → R y y' → AreFirst R (n + 1) xs (set ys n y')
  first_more n ys y y' so_far at moved = record {
    count = length-set ys n y' ∙ so_far.count;
    moved = λ i x x' low was is. elim (cases_eq i n) [
      | inl same ↦
          let before : x ≡ y = one_some x y (sym was ∙ (sym (so_far.others i (omega (arith, same))) ∙ (subst (λ k. slice_get ys k ≡ Some y) (sym same) at))) in
          let after : y' ≡ x' = one_some y' x' (sym (subst (λ k. slice_get (set ys n y') k ≡ Some y') (sym same) (set_same ys n y' (slice_get_within ys n y at))) ∙ is) in
          subst (R x) after (subst (λ z. R z y') (sym before) moved)
      | inr away ↦ so_far.moved i x x' (omega (arith, low, away)) was (sym (set_other ys n i y' away) ∙ is)
    ];
    others = λ i past. set_other ys n i y' (λ same. omega (arith, past, same)) ∙ so_far.others i (omega (arith, past));
  }

  pub first_all : (n : ℕ) (ys : List X) → AreFirst R n xs ys → length xs ≤ n → Each R xs ys
  first_all n ys are all = (are.count, λ i x x' was is. are.moved i x x' (let low = slice_get_within xs i x was in omega (arith, low, all)) was is)

module _ {S G : Type 0} (R : S → S → Type 0) (ws ws' : List (Worker S G)) (moved : AreMoved R ws ws') where
  -- a member has moved to the one in its place
  pub record HasMoved (w k : ℕ) (a : S) : Type 0 where
    pub after : S
    pub member : IsMember ws' w k after
    pub leads : R a after

  pub member_moved : (w k : ℕ) (a : S) → IsMember ws w k a → HasMoved w k a
  member_moved w k a is =
      let (worker', at') = beside ws ws' w is.worker moved.0 is.worker_is in
      let each = moved.1 w is.worker worker' is.worker_is at' in
      let (b, there) = beside is.worker.members worker'.members k a each.0 is.member_is in
      record { after = b; member = record { worker = worker'; worker_is = at'; member_is = there }; leads = each.1 k a b is.member_is there }

  -- and each comes from one
  pub record ComesFrom (w k : ℕ) (b : S) : Type 0 where
    pub before : S
    pub member : IsMember ws w k before
    pub leads : R before b

  pub member_before : (w k : ℕ) (b : S) → IsMember ws' w k b → ComesFrom w k b
  member_before w k b is =
      let (worker, at) = beside ws' ws w is.worker (sym moved.0) is.worker_is in
      let each = moved.1 w worker is.worker at is.worker_is in
      let (a, there) = beside is.worker.members worker.members k b (sym each.0) is.member_is in
      record { before = a; member = record { worker = worker; worker_is = at; member_is = there }; leads = each.1 k a b there is.member_is }

-- what is dealt stays dealt as each member moves to one of the same port, which fits by then
module _ {S G : Type 0} (port_of : S → ℕ) (Fits Fits' : S → Type 0) (workers ports host_at : ℕ) (R : S → S → Type 0) (ws ws' : List (Worker S G)) (leads : (a b : S) → Fits a → R a b → (port_of b ≡ port_of a) × Fits' b) where
  pub dealt_moved : AreDealtFrom port_of Fits workers ports host_at 0 ws → AreMoved R ws ws' → AreDealtFrom port_of Fits' workers ports host_at 0 ws'
  dealt_moved dealt moved = record {
    count = moved.0 ∙ dealt.count;
    each = λ w k b is.
        let from = member_before R ws ws' moved w k b is in
        let was = dealt.each w k from.before from.member in
        let (port, fits) = leads from.before b was.seat_is from.leads in
        record { seat_is = fits; from_is = omega arith; inside = subst (λ q. q < ports) (sym port) was.inside; whose = ap (λ q. q % workers) port ∙ was.whose };
    apart = λ w j k a b is is' away same.
        let one = member_before R ws ws' moved w j a is in
        let other = member_before R ws ws' moved w k b is' in
        dealt.apart w j k one.before other.before one.member other.member away
        (sym (leads one.before a (dealt.each w j one.before one.member).seat_is one.leads).0 ∙ (same ∙ (leads other.before b (dealt.each w k other.before other.member).seat_is other.leads).0));
    all = λ p from inside. (let (k, has) = dealt.all p from inside in (k, port_moved p k has));
    host = λ from. port_moved host_at 0 (dealt.host from);
  } where
    port_moved : (p k : ℕ) → HasPortOf port_of workers ws p k → HasPortOf port_of workers ws' p k
    port_moved p k has =
        let to = member_moved R ws ws' moved (p % workers) k has.seat has.member in
        record { seat = to.after; member = to.member; port_is = (leads has.seat to.after (dealt.each (p % workers) k has.seat has.member).seat_is to.leads).0 ∙ has.port_is }

-- once workers have run with gates their members have made all turns
pub have_ended : {S G : Type 0} (m : stepper.Ghosts S) (p : gate.Ghosts G) (ws ws' : List (Worker S G)) (gates gates' : List (Option G)) → AllHaveRunWith m p ws gates ws' gates' → length ws ≤ length gates → AreMoved (HasEnded m) ws ws'
have_ended m p ws ws' gates gates' run enough = (
  run.worker_count,
  λ w worker worker' at at'.
      let low = slice_get_within ws w worker at in
      let (one, there) = member_at gates w (omega (arith, low, enough)) in
      let (one', there') = beside gates gates' w one run.gate_count there in
      let ran : HasRun m p (lent worker one) (lent worker' one') = run.ran w worker worker' one one' at at' there there' in
      (ran.count, λ k a b was is. record { same = ran.same k a b was is; done = ran.done k b is }),
)
