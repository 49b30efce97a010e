-- Where a gate waits for one that is on the path already, the path from there on is a loop.
use Rattle.std.proofs.Common.{◌≡◌, ◌≢◌, ◌∙◌, ℕ, ◌+◌, ◌-◌, ◌<◌, ◌≤◌, ◌⊎◌, inl, inr, if◌then◌else◌, List, length, get_or, sym, ap, subst, arith}
use Rattle.std.proofs.lemmas.{Bool.cases_lt, Bool.Decides.leb_tells, List.get_or_default}
use Rattle.std.specs.List.{Contains}
use Rattle.net_defs.specs.{declared.netlist.Netlist.Netlist, declared.timing.Timing.Timing, Loops.IsGate, Loops.waits_for, Loops.IsLoop}
use Rattle.rank_find.specs.{declared.walk.Mark.Mark, code.Walk.IsWalk, code.Circle.place_of_member, code.Circle.IsCircleOn, code.Circle.IsLeastPlace}
use Rattle.list_laws.proofs.Differ.{differ_at}
use Rattle.rank_find.proofs.WalkLemmas.{marked_gate}

place_cases : (from least to i : ℕ) → ((from + i ≤ least) × (place_of_member from least to i ≡ least - i)) ⊎ ((least < from + i) × (place_of_member from least to i ≡ to + least - from - i))
place_cases from least to i = elim (leb_tells (from + i) least) [
  | inl h ↦ inl (h.1, ap (λ b. if b then least - i else to + least - from - i) h.0)
  | inr h ↦ inr (h.1, ap (λ b. if b then least - i else to + least - from - i) h.0)
]

module _ (net : Netlist) (timing : Timing) (marks : List Mark) (path order : List ℕ) (from least : ℕ) (loop : List ℕ)
    (walk : IsWalk net timing marks path order) (low : IsLeastPlace path from least) (circle : IsCircleOn path from least loop)
    (back : Contains (waits_for net timing (get_or path (length path - 1) 0)) (get_or path from 0)) where
  place_within : (i : ℕ) → i < length loop → (from ≤ place_of_member from least (length path) i) × (place_of_member from least (length path) i < length path)
  place_within i within = elim (place_cases from least (length path) i) [
    | inl h ↦ (omega (arith, low.after, low.within, circle.members), omega (arith, low.after, low.within, circle.members))
    | inr h ↦ (omega (arith, low.after, low.within, circle.members), omega (arith, low.after, low.within, circle.members))
  ]

  places_differ : (i j : ℕ) → i < j → j < length loop → place_of_member from least (length path) i ≢ place_of_member from least (length path) j
  places_differ i j before within same = elim (place_cases from least (length path) i) [
    | inl h ↦ elim (place_cases from least (length path) j) [
      | inl k ↦ omega (arith, low.after, low.within, circle.members)
      | inr k ↦ omega (arith, low.after, low.within, circle.members)
    ]
    | inr h ↦ elim (place_cases from least (length path) j) [
      | inl k ↦ omega (arith, low.after, low.within, circle.members)
      | inr k ↦ omega (arith, low.after, low.within, circle.members)
    ]
  ]

  members_differ : (i j : ℕ) → i < j → j < length loop → get_or loop i 0 ≢ get_or loop j 0
  members_differ i j before within same =
      let i_within : i < length loop = omega arith in
      let i_place = place_within i i_within in
      let j_place = place_within j within in
      let equal = sym (circle.places i i_within) ∙ same ∙ circle.places j within in
      elim (cases_lt (place_of_member from least (length path) i) (place_of_member from least (length path) j)) [
        | inl h ↦ differ_at path _ _ walk.path_different h j_place.1 equal
        | inr h ↦
            let other : place_of_member from least (length path) i ≢ place_of_member from least (length path) j = places_differ i j before within in
            differ_at path _ _ walk.path_different (omega arith) i_place.1 (sym equal)
      ]

  waits_from : (later earlier : ℕ) → (later + 1 ≡ earlier) ⊎ ((later + 1 ≡ length path) × (earlier ≡ from)) → earlier < length path → Contains (waits_for net timing (get_or path later 0)) (get_or path earlier 0)
  waits_from later earlier (inl h) within = subst (λ n. Contains (waits_for net timing (get_or path later 0)) (get_or path n 0)) h (walk.down later (rw (h) within))
  waits_from later earlier (inr h) within =
      let last : later ≡ length path - 1 = omega arith in
      rw (last, h.1) back

  next_place : (i : ℕ) → i + 1 < length loop → (place_of_member from least (length path) (i + 1) + 1 ≡ place_of_member from least (length path) i) ⊎ ((place_of_member from least (length path) (i + 1) + 1 ≡ length path) × (place_of_member from least (length path) i ≡ from))
  next_place i within = elim (place_cases from least (length path) i) [
    | inl h ↦ elim (place_cases from least (length path) (i + 1)) [
      | inl k ↦ inl (omega (arith, low.after, low.within, circle.members))
      | inr k ↦ inr (omega (arith, low.after, low.within, circle.members), omega (arith, low.after, low.within, circle.members))
    ]
    | inr h ↦ elim (place_cases from least (length path) (i + 1)) [
      | inl k ↦ inl (omega (arith, low.after, low.within, circle.members))
      | inr k ↦ inl (omega (arith, low.after, low.within, circle.members))
    ]
  ]

  first_place : place_of_member from least (length path) 0 ≡ least
  first_place = elim (place_cases from least (length path) 0) [
    | inl h ↦ omega (arith, low.after)
    | inr h ↦ omega (arith, low.after)
  ]

  last_place : (place_of_member from least (length path) 0 + 1 ≡ place_of_member from least (length path) (length loop - 1)) ⊎ ((place_of_member from least (length path) 0 + 1 ≡ length path) × (place_of_member from least (length path) (length loop - 1) ≡ from))
  last_place =
      let first = first_place in
      elim (place_cases from least (length path) (length loop - 1)) [
        | inl h ↦ inr (omega (arith, low.after, low.within, circle.members), omega (arith, low.after, low.within, circle.members))
        | inr h ↦ inl (omega (arith, low.after, low.within, circle.members))
      ]

  some_member : 0 < length loop
  some_member = omega (arith, low.after, low.within, circle.members)

  -- the members of the circle are a loop
  pub circle-loop : IsLoop net timing loop
  circle-loop = record {
    circle = record {
      some = omega (arith, some_member);
      different = λ i j d before within same.
          let i_within : i < length loop = omega arith in
          members_differ i j before within (get_or_default loop i 0 d i_within ∙ same ∙ get_or_default loop j d 0 within);
      gates = λ k d within.
          let at = place_within k within in
          subst (IsGate net) (sym (circle.places k within) ∙ get_or_default loop k 0 d within)
          (marked_gate net timing marks path order walk _ (λ done. let is = walk.path_open _ at.1 in cc));
      next = λ i within.
          let i_within : i < length loop = omega arith in
          let at = place_within i i_within in
          let waits = waits_from _ _ (next_place i within) at.1 in
          rw (circle.places i i_within, circle.places (i + 1) within) waits;
      closed =
          let last_within : length loop - 1 < length loop = omega (arith, some_member) in
          let at = place_within (length loop - 1) last_within in
          let waits = waits_from _ _ last_place at.1 in
          rw (circle.places (length loop - 1) last_within, circle.places 0 some_member) waits;
    };
    least = λ k d within.
        let at = place_within k within in
        let below = low.below _ at.0 at.1 in
        let first : get_or loop 0 0 ≡ get_or path least 0 = circle.places 0 some_member ∙ ap (λ n. get_or path n 0) first_place in
        let member = sym (circle.places k within) ∙ get_or_default loop k 0 d within in
        omega arith;
  }
