-- There is an order or a loop: the walk, step by step, with what is left of it as the fuel.
use Rattle.std.proofs.Common.{◌≡◌, ◌≢◌, ◌∙◌, ℕ, zero, suc, ◌+◌, ◌-◌, ◌<◌, ◌≤◌, ◌⊎◌, inl, inr, List, [], ◌∷◌, ◌++◌, length, take, map, get_or, set, refl, sym, ap, subst, arith}
use Rattle.std.proofs.lemmas.List.{get_or_past, take_more, take_all, length_push}
use Rattle.std.proofs.lemmas.{Bool.cases_lt, List.FromFn.length-map-range_with_len, List.FromFn.get_or-map-range_with_len}
use Rattle.std.specs.List.{Contains, range_with_len}
use Rattle.net_defs.specs.Loops.{IsGate, waits_for, IsOrder, OrderOrLoop}
use Rattle.net_defs.specs.declared.{netlist.Netlist.Netlist, timing.Timing.Timing}
use Rattle.rank_find.specs.code.Walk.{mark_at, first_mark, work_left, IsWalk}
use Rattle.rank_find.specs.declared.walk.Mark.{Mark, TheVariants.Fresh, TheVariants.Open, TheVariants.Done}
use Rattle.rank_find.specs.code.Circle.{place_of_member, IsCircleOn, IsLeastPlace}
use Rattle.list_laws.proofs.Places.{place_of, read_last}
use Rattle.rank_find.proofs.WalkLemmas.{enter, enter-nearer, finish, finish-nearer}
use Rattle.rank_find.proofs.{CircleLemmas.circle-loop, RunLemmas.start_lists}

-- some signal is fresh, or none
fresh_or : (marks : List Mark) → ((s : ℕ) × (mark_at marks s ≡ Fresh)) ⊎ ((s : ℕ) → mark_at marks s ≢ Fresh)
fresh_or [] = inr (λ s fresh. let past = get_or_past [] s Done (omega arith) in cc)
fresh_or (Fresh ∷ marks) = inl (zero, refl)
fresh_or (Open ∷ marks) = elim (fresh_or marks) [ inl h ↦ inl (suc h.0, h.1) | inr none ↦ inr (λ s fresh. later s fresh none) ] where
  later : (s : ℕ) → mark_at (Open ∷ marks) s ≡ Fresh → ((t : ℕ) → mark_at marks t ≢ Fresh) → ⊥
  later zero fresh none = cc
  later (suc s) fresh none = none s fresh
fresh_or (Done ∷ marks) = elim (fresh_or marks) [ inl h ↦ inl (suc h.0, h.1) | inr none ↦ inr (λ s fresh. later s fresh none) ] where
  later : (s : ℕ) → mark_at (Done ∷ marks) s ≡ Fresh → ((t : ℕ) → mark_at marks t ≢ Fresh) → ⊥
  later zero fresh none = cc
  later (suc s) fresh none = none s fresh

-- some of these signals is not done, or all are
undone_or : (marks : List Mark) (operands : List ℕ) → ((o : ℕ) × Contains operands o × (mark_at marks o ≢ Done)) ⊎ ((o : ℕ) → Contains operands o → mark_at marks o ≡ Done)
undone_or marks [] = inr (λ o held. absurd (omega (arith, held.1)))
undone_or marks (x ∷ xs) = by_mark (undone_or marks xs) (mark_at marks x) refl where
  first : Contains (x ∷ xs) x
  first = (zero, omega arith, refl)

  by_place : mark_at marks x ≡ Done → ((o : ℕ) → Contains xs o → mark_at marks o ≡ Done) → (o k : ℕ) → k < length (x ∷ xs) → get_or (x ∷ xs) k o ≡ o → mark_at marks o ≡ Done
  by_place is rest o zero within same = ap (mark_at marks) (sym same) ∙ is
  by_place is rest o (suc k) within same = rest o (k, omega arith, same)

  by_rest : (((o : ℕ) × Contains xs o × (mark_at marks o ≢ Done)) ⊎ ((o : ℕ) → Contains xs o → mark_at marks o ≡ Done)) → mark_at marks x ≡ Done → ((o : ℕ) × Contains (x ∷ xs) o × (mark_at marks o ≢ Done)) ⊎ ((o : ℕ) → Contains (x ∷ xs) o → mark_at marks o ≡ Done)
  by_rest rest is = elim rest [
    | inl h ↦ inl (h.0, (suc h.1.0, omega (arith, h.1.1), h.1.2), h.2)
    | inr h ↦ inr (λ o held. by_place is h o held.0 held.1 held.2)
  ]

  by_mark : (((o : ℕ) × Contains xs o × (mark_at marks o ≢ Done)) ⊎ ((o : ℕ) → Contains xs o → mark_at marks o ≡ Done)) → (mark : Mark) → mark_at marks x ≡ mark → ((o : ℕ) × Contains (x ∷ xs) o × (mark_at marks o ≢ Done)) ⊎ ((o : ℕ) → Contains (x ∷ xs) o → mark_at marks o ≡ Done)
  by_mark rest Fresh is = inl (x, first, λ done. cc)
  by_mark rest Open is = inl (x, first, λ done. cc)
  by_mark rest Done is = by_rest rest is

-- the least place so far
least_to : (path : List ℕ) (from d : ℕ) → (m : ℕ) × (from ≤ m) × (m ≤ from + d) × ((k : ℕ) → from ≤ k → k ≤ from + d → get_or path m 0 ≤ get_or path k 0)
least_to path from zero = (from, omega arith, omega arith, λ k low high. let same : k ≡ from = omega arith in rw same (omega arith))
least_to path from (suc d) =
    let below = least_to path from d in
    elim (cases_lt (get_or path (from + suc d) 0) (get_or path below.0 0)) [
      | inl h ↦ (
        from + suc d,
        omega arith,
        omega arith,
        λ k low high. elim (cases_lt k (from + suc d)) [
          | inl j ↦ let less = below.3 k low (omega arith) in omega arith
          | inr j ↦ let same : k ≡ from + suc d = omega arith in rw same (omega arith)
        ],
      )
      | inr h ↦ (
        below.0,
        below.1,
        omega (arith, below.2),
        λ k low high. elim (cases_lt k (from + suc d)) [
          | inl j ↦ below.3 k low (omega arith)
          | inr j ↦ let same : k ≡ from + suc d = omega arith in rw same h
        ],
      )
    ]

least_place : (path : List ℕ) (from : ℕ) → from < length path → (least : ℕ) × IsLeastPlace path from least
least_place path from within =
    let low = least_to path from (length path - 1 - from) in (
      low.0,
      record {
        after = low.1;
        within = omega (arith, low.2);
        below = λ k at_least k_within. low.3 k at_least (omega arith);
      },
    )

circle_of : (path : List ℕ) (from least : ℕ) → (loop : List ℕ) × IsCircleOn path from least loop
circle_of path from least = (
  map (λ i. get_or path (place_of_member from least (length path) i) 0) (range_with_len 0 (length path - from)),
  record {
    members = length-map-range_with_len (λ i. get_or path (place_of_member from least (length path) i) 0) 0 (length path - from);
    places = λ i within. get_or-map-range_with_len (λ n. get_or path (place_of_member from least (length path) n) 0) 0 (length path - from) i i 0
        (omega (arith, length-map-range_with_len (λ n. get_or path (place_of_member from least (length path) n) 0) 0 (length path - from))) (omega arith);
  },
)

-- a path is empty, or has a last gate
last_gate_or : (path : List ℕ) → (path ≡ []) ⊎ ((rest : List ℕ) × (top : ℕ) × (path ≡ rest ++ top ∷ []))
last_gate_or [] = inl refl
last_gate_or (x ∷ xs) =
    let some : length xs < length (x ∷ xs) = omega arith in
    inr (take (length xs) (x ∷ xs), get_or (x ∷ xs) (length xs) 0, sym (take_all (length xs + 1) (x ∷ xs) (omega arith)) ∙ take_more (x ∷ xs) (length xs) 0 some)

module _ (net : Netlist) (timing : Timing) where
  -- an open operand of the last gate closes a loop
  closes_loop : (marks : List Mark) (rest order : List ℕ) (top o : ℕ) → IsWalk net timing marks (rest ++ top ∷ []) order → Contains (waits_for net timing top) o → mark_at marks o ≡ Open → OrderOrLoop net timing
  closes_loop marks rest order top o walk waits is =
      let path : List ℕ = rest ++ top ∷ [] in
      let at = place_of (rest ++ top ∷ []) o (walk.on_path o is) in
      let low = least_place (rest ++ top ∷ []) at.0 at.1 in
      let circle = circle_of (rest ++ top ∷ []) at.0 low.0 in
      let long : length (rest ++ top ∷ []) - 1 ≡ length rest = omega (arith, length_push rest top) in
      let back : Contains (waits_for net timing (get_or (rest ++ top ∷ []) (length (rest ++ top ∷ []) - 1) 0)) (get_or (rest ++ top ∷ []) at.0 0) = rw (read_last rest top (length (rest ++ top ∷ []) - 1) long, at.2) waits in
      inr (circle.0, circle-loop net timing marks (rest ++ top ∷ []) order at.0 low.0 circle.0 walk low.1 circle.1 back)

  over : (marks : List Mark) (order : List ℕ) → IsWalk net timing marks [] order → ((s : ℕ) → mark_at marks s ≢ Fresh) → IsOrder net timing order
  over marks order walk none = record {
    different = walk.order_different;
    gates = walk.order_gates;
    whole = λ s gate. by_mark s gate (mark_at marks s) refl;
    after = walk.after;
  } where
    by_mark : (s : ℕ) → IsGate net s → (mark : Mark) → mark_at marks s ≡ mark → Contains order s
    by_mark s gate Fresh is = absurd (none s is)
    by_mark s gate Open is = absurd (omega (arith, (walk.on_path s is).1))
    by_mark s gate Done is = walk.finished s gate is

  -- one step, where the walk with less left can be gone on with
  module _ (left : ℕ) (marks : List Mark) (order : List ℕ) (again : (marks : List Mark) (path order : List ℕ) → IsWalk net timing marks path order → work_left marks path < left → OrderOrLoop net timing) where
    from_empty : IsWalk net timing marks [] order → work_left marks [] < suc left → OrderOrLoop net timing
    from_empty idle enough = elim (fresh_or marks) [
      | inl h ↦
          let nearer = enter-nearer net timing marks [] order idle h.0 h.1 (λ i last. absurd (omega arith)) in
          again (set marks h.0 Open) ([] ++ h.0 ∷ []) order (enter net timing marks [] order idle h.0 h.1 (λ i last. absurd (omega arith))) (omega arith)
      | inr none ↦ inl (order, over marks order idle none)
    ]

    meet : (rest : List ℕ) (top o : ℕ) (mark : Mark) → mark_at marks o ≡ mark → mark_at marks o ≢ Done → IsWalk net timing marks (rest ++ top ∷ []) order → work_left marks (rest ++ top ∷ []) < suc left → Contains (waits_for net timing top) o → OrderOrLoop net timing
    meet rest top o Fresh is undone down enough waits =
        let linked : (i : ℕ) → i + 1 ≡ length (rest ++ top ∷ []) → Contains (waits_for net timing (get_or (rest ++ top ∷ []) i 0)) o = λ i last. rw (read_last rest top i (omega (arith, length_push rest top))) waits in
        let nearer = enter-nearer net timing marks (rest ++ top ∷ []) order down o is linked in
        again (set marks o Open) ((rest ++ top ∷ []) ++ o ∷ []) order (enter net timing marks (rest ++ top ∷ []) order down o is linked) (omega arith)
    meet rest top o Open is undone down enough waits = closes_loop marks rest order top o down waits is
    meet rest top o Done is undone down enough waits = absurd (undone is)

    from_top : (rest : List ℕ) (top : ℕ) → IsWalk net timing marks (rest ++ top ∷ []) order → work_left marks (rest ++ top ∷ []) < suc left → OrderOrLoop net timing
    from_top rest top down enough = elim (undone_or marks (waits_for net timing top)) [
      | inl h ↦ meet rest top h.0 (mark_at marks h.0) refl h.2 down enough h.1
      | inr h ↦
          let nearer = finish-nearer net timing marks rest order top down h in
          again (set marks top Done) rest (order ++ top ∷ []) (finish net timing marks rest order top down h) (omega arith)
    ]

    step : (path : List ℕ) → IsWalk net timing marks path order → work_left marks path < suc left → OrderOrLoop net timing
    step path walk enough = elim (last_gate_or path) [
      | inl empty ↦ from_empty (subst (λ p. IsWalk net timing marks p order) empty walk) (rw empty at enough)
      | inr last ↦ from_top last.0 last.1 (subst (λ p. IsWalk net timing marks p order) last.2 walk) (rw last.2 at enough)
    ]

  go : (fuel : ℕ) (marks : List Mark) (path order : List ℕ) → IsWalk net timing marks path order → work_left marks path < fuel → OrderOrLoop net timing
  go zero marks path order walk enough = absurd (omega arith)
  go (suc fuel) marks path order walk enough = step fuel marks order (go fuel) path walk enough

  pub order_or_loop : OrderOrLoop net timing
  order_or_loop = go (work_left (map first_mark net.signals) [] + 1) (map first_mark net.signals) [] [] (start_lists net timing) (omega arith)
