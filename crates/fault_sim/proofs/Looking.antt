-- Columns, and the verdicts after a cycle.
use Rattle.std.proofs.Common.{◌≡◌, ◌∙◌, inl, inr, ℕ, ◌+◌, ◌<◌, ◌≤◌, false, List, length, get_or, set, refl, sym, ap, ap₂, subst, arith, Some}
use Rattle.std.proofs.lemmas.List.{length-set, length-map, get_or-map, get_or_past}
use Rattle.std.proofs.lemmas.Option.{slice_get_within, get_or_from_slice_get}
use Rattle.std.specs.{List.slice_get, List.All, Prelude.max}
use Rattle.list_laws.proofs.{Places.one_there, Ranges.last_or, Members.set_same, Members.set_other}
use Rattle.logic_four.specs.declared.V4.TheVariants.{Zero, One, Undef, HighZ}
use Rattle.logic_four.specs.declared.V4.{V4}
use Rattle.wide_planes.specs.{declared.planes.Wide.Wide, declared.TheConstants.WIDE_LANES, declared.planes.Words.Words, Lanes.bit_of, Lanes.opposite}
use Rattle.wide_planes.specs.Lanes as wide
use Rattle.fault_sim.specs.{declared.wires.Lanes.Lanes, code.Lanes.lane_of, code.Lanes.lane_row, declared.faults.Verdict.Verdict, Verdicts.differs}
use Rattle.fault_sim.specs.code.Runs.{differs_in, IsLooked, AreLooked}
use Rattle.net_defs.specs.{declared.netlist.Netlist.Netlist, Time.value_at, Steps.values_of, Valid.IsSignal}

-- a printed value of a lane
column_is : (net : Netlist) (row : List Lanes) (l j : ℕ) (p : Lanes) (list : List ℕ) → list ≡ net.printed → All (IsSignal net) net.printed → length row ≡ length net.signals → j < length list → p ≡ get_or row (get_or list j 0) p
    → value_at (values_of (lane_row l row) net.printed) j ≡ lane_of p l
column_is net row l j p list whole printed long within is =
    let inside : j < length net.printed = subst (λ xs. j < length xs) whole within in
    let same : get_or list j 0 ≡ get_or net.printed j 0 = ap (λ xs. get_or xs j 0) whole in
    let signal : get_or net.printed j 0 < length net.signals = printed j 0 inside in
    get_or-map (value_at (lane_row l row)) net.printed j 0 Undef inside
    ∙ (get_or-map (λ q. lane_of q l) row (get_or net.printed j 0) p Undef (omega (arith, signal, long))
    ∙ (ap (λ s. lane_of (get_or row s p) l) (sym same) ∙ ap (λ q. lane_of q l) (sym is)))

pub differs_here : (net : Netlist) (row : List Lanes) (at j : ℕ) (p : Lanes) (list : List ℕ) (a b : V4) → list ≡ net.printed → All (IsSignal net) net.printed → length row ≡ length net.signals → j < length list → p ≡ get_or row (get_or list j 0) p
    → a ≡ lane_of p 0 → b ≡ lane_of p at → differs_in net (lane_row 0 row) (lane_row at row) j ≡ differs a b
differs_here net row at j p list a b whole printed long within is first second =
    ap₂ differs (column_is net row 0 j p list whole printed long within is ∙ sym first) (column_is net row at j p list whole printed long within is ∙ sym second)

not_opposite : (a b : V4) → opposite a b ≡ 0 → differs a b ≡ false
not_opposite Zero Zero none = refl
not_opposite Zero One none = absurd (omega (arith, none))
not_opposite Zero Undef none = refl
not_opposite Zero HighZ none = refl
not_opposite One Zero none = absurd (omega (arith, none))
not_opposite One One none = refl
not_opposite One Undef none = refl
not_opposite One HighZ none = refl
not_opposite Undef b none = refl
not_opposite HighZ b none = refl

-- a lane without a mark differs in none of the first so many columns
abbrev pub MarksTo : Netlist → List Lanes → ℕ → Words → Type 0
MarksTo net row n marks =
    (k j : ℕ) → k < WIDE_LANES → bit_of marks k ≡ 0 → j < n → differs_in net (lane_row 0 row) (lane_row k row) j ≡ false

pub marks_more : (net : Netlist) (row : List Lanes) (n : ℕ) (p : Lanes) (good : Wide) (list : List ℕ) (marks new others : Words) (v : V4)
    → list ≡ net.printed → All (IsSignal net) net.printed → length row ≡ length net.signals → n < length list → p ≡ get_or row (get_or list n 0) p
    → v ≡ lane_of p 0 → ((k : ℕ) → k < WIDE_LANES → wide.lane_of good k ≡ v)
    → ((k : ℕ) → k < WIDE_LANES → bit_of others k ≡ opposite (wide.lane_of good k) (lane_of p k))
    → ((k : ℕ) → k < WIDE_LANES → bit_of new k ≡ max (bit_of marks k) (bit_of others k))
    → MarksTo net row n marks → MarksTo net row (n + 1) new
marks_more net row n p good list marks new others v whole printed long within is first same marked joined so_far k j here none below =
    let both : max (bit_of marks k) (bit_of others k) ≡ 0 = sym (joined k here) ∙ none in
    elim (last_or j n below) [
      | inl h ↦ so_far k j here (omega (arith, both)) h
      | inr h ↦
          let other : bit_of others k ≡ 0 = omega (arith, both) in
          ap (differs_in net (lane_row 0 row) (lane_row k row)) h
          ∙ (differs_here net row k n p list (wide.lane_of good k) (lane_of p k) whole printed long within is (same k here ∙ first) refl
          ∙ not_opposite (wide.lane_of good k) (lane_of p k) (sym (marked k here) ∙ other))
    ]

-- there is no difference past the last column
pub differs_past : (net : Netlist) (good faulty : List V4) (j : ℕ) → length net.printed ≤ j → differs_in net good faulty j ≡ false
differs_past net good faulty j past =
    ap₂ differs (get_or_past (values_of good net.printed) j Undef (omega (arith, past, length-map net.printed (value_at good)))) (get_or_past (values_of faulty net.printed) j Undef (omega (arith, past, length-map net.printed (value_at faulty))))

-- the verdicts on the first so many faults are made, and the others as they were
pub record IsLookedTo (net : Netlist) (row : List Lanes) (cycle n : ℕ) (old new : List Verdict) : Type 0 where
  pub count : length new ≡ length old
  pub done : (k : ℕ) (before after : Verdict) → k < n → slice_get old k ≡ Some before → slice_get new k ≡ Some after → IsLooked net (lane_row 0 row) (lane_row (k + 1) row) cycle before after
  pub rest : (k : ℕ) → n ≤ k → slice_get new k ≡ slice_get old k

pub looked_none : (net : Netlist) (row : List Lanes) (cycle : ℕ) (old : List Verdict) → IsLookedTo net row cycle 0 old old
looked_none net row cycle old = record {
  count = refl;
  done = λ k before after below at there. absurd (omega (arith, below));
  rest = λ k above. refl;
}

pub looked_more : (net : Netlist) (row : List Lanes) (cycle n : ℕ) (old now list new : List Verdict) (d v : Verdict) → IsLookedTo net row cycle n old now → n < length old
    → list ≡ now → IsLooked net (lane_row 0 row) (lane_row (n + 1) row) cycle (get_or list n d) v → new ≡ set now n v → IsLookedTo net row cycle (n + 1) old new
looked_more net row cycle n old now list new d v so_far within same looked changed = rw changed (record {
  count = length-set now n v ∙ so_far.count;
  done = λ k before after below at there. elim (last_or k n below) [
    | inl h ↦ so_far.done k before after h at (sym (set_other now n k v (λ same. absurd (omega (arith, h, same)))) ∙ there)
    | inr h ↦
        let at_n : slice_get old n ≡ Some before = subst (λ m. slice_get old m ≡ Some before) h at in
        let there_n : slice_get (set now n v) n ≡ Some after = subst (λ m. slice_get (set now n v) m ≡ Some after) h there in
        let was : get_or list n d ≡ before = ap (λ xs. get_or xs n d) same ∙ get_or_from_slice_get now n before d (so_far.rest n (omega arith) ∙ at_n) in
        let is : v ≡ after = one_there (set now n v) n n v after refl (set_same now n v (omega (arith, within, so_far.count))) there_n in
        subst (λ m. IsLooked net (lane_row 0 row) (lane_row (m + 1) row) cycle before after) (sym h)
        (subst (λ b. IsLooked net (lane_row 0 row) (lane_row (n + 1) row) cycle b after) was
        (subst (λ a. IsLooked net (lane_row 0 row) (lane_row (n + 1) row) cycle (get_or list n d) a) is looked))
  ];
  rest = λ k above. set_other now n k v (λ same. absurd (omega (arith, above, same))) ∙ so_far.rest k (omega (arith, above));
})

pub looked_all : (net : Netlist) (row : List Lanes) (cycle n : ℕ) (old new : List Verdict) → length old ≤ n → IsLookedTo net row cycle n old new → AreLooked net row cycle old new
looked_all net row cycle n old new all so_far = record {
  count = so_far.count;
  each = λ k before after at there. so_far.done k before after (omega (arith, all, slice_get_within old k before at)) at there;
}
