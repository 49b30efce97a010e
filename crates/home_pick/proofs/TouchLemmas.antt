-- Ports that are touched, and the best of them.
use Rattle.std.proofs.Common.{◌≡◌, ◌≢◌, ◌∙◌, ◌⊎◌, inl, inr, ℕ, zero, suc, ◌+◌, ◌<◌, ◌≤◌, Bool, true, false, List, [], length, replicate, get_or, take, refl, sym, ap, subst, arith, if◌then◌else◌}
use Rattle.std.proofs.lemmas.Bool.{cases_lt, cases_eq, cases_Bool, lt-ltb, le-ltb, eq-eqb, ne_eqb, both_ways, cond-true, cond-false}
use Rattle.std.proofs.{Math.Numerals.add-one, Math.Seq.take-suc, lemmas.List.take_all, lemmas.List.Elements.Contains-push_cases}
use Rattle.std.specs.{Prelude.◌==◌, Prelude.nat_lt, Prelude.slice_index, List.Contains}
use Rattle.list_laws.proofs.Ranges.{replicate_read}
use Rattle.home_pick.specs.{declared.pulls.Pulls.Pulls, code.Touched.AreTouched, code.Touched.is_better}
use Rattle.home_pick.proofs.ChoiceLemmas.{most_of, most_more}

-- nothing pulls
pub none_touched : (pulls : Pulls) (n : ℕ) → pulls.at ≡ replicate n 0 → pulls.touched ≡ [] → AreTouched pulls
none_touched pulls n at touched = record {
  within = λ k low. absurd (let none = ap length touched in omega (arith, low, none));
  whole = λ port low some. absurd (some (ap (λ (xs : List ℕ). get_or xs port 0) at ∙ replicate_read n port 0));
}

-- ---- the best port

-- the own port, or one of those that pass that has more; of those in question none that passes has more, and of those with as much it is the first
pub record IsBest (f : ℕ → ℕ) (P : ℕ → Bool) (own : ℕ) (In : ℕ → Type 0) (best : ℕ) : Type 0 where
  pub place : (best ≡ own) ⊎ ((P best ≡ true) × (f own < f best))
  pub most : (p : ℕ) → In p → P p ≡ true → f p ≤ f best
  pub least : (p : ℕ) → In p → P p ≡ true → f p ≡ f best → (best ≡ own) ⊎ (best ≤ p)

module _ (f : ℕ → ℕ) (P : ℕ → Bool) (own : ℕ) (In Then : ℕ → Type 0) (best other : ℕ) (is : IsBest f P own In best) (cover : (p : ℕ) → Then p → In p ⊎ (other ≡ p)) where
  stays : (P other ≡ true → f other ≤ f best) → (P other ≡ true → f other ≡ f best → (best ≡ own) ⊎ (best ≤ other)) → IsBest f P own Then best
  stays no_more as_much = record {
    place = is.place;
    most = λ p at passes. elim (cover p at) [
      | inl old ↦ is.most p old passes
      | inr same ↦ subst (λ q. f q ≤ f best) same (no_more (ap P same ∙ passes))
    ];
    least = λ p at passes equal. elim (cover p at) [
      | inl old ↦ is.least p old passes equal
      | inr same ↦ subst (λ q. (best ≡ own) ⊎ (best ≤ q)) same (as_much (ap P same ∙ passes) (ap f same ∙ equal))
    ];
  }

  goes : P other ≡ true → f own < f other → f best ≤ f other → ((p : ℕ) → In p → P p ≡ true → f p ≡ f other → other ≤ p) → IsBest f P own Then other
  goes room more up before = record {
    place = inr (room, more);
    most = λ p at passes. elim (cover p at) [
      | inl old ↦ (let had = is.most p old passes in omega (arith, had, up))
      | inr same ↦ (let equal : f other ≡ f p = ap f same in omega (arith, equal))
    ];
    least = λ p at passes equal. inr (elim (cover p at) [
      | inl old ↦ before p old passes equal
      | inr same ↦ omega (arith, same)
    ]);
  }

  own_most : f own ≤ f best
  own_most = elim is.place [ inl same ↦ (let equal : f best ≡ f own = ap f same in omega (arith, equal)) | inr more ↦ (let less = more.1 in omega (arith, less)) ]

-- one port more is looked at
pub best_next : (at : List ℕ) (P : ℕ → Bool) (own best other : ℕ) (In Then : ℕ → Type 0) → IsBest (slice_index at) P own In best → ((p : ℕ) → Then p → In p ⊎ (other ≡ p))
    → IsBest (slice_index at) P own Then (if P other then (if is_better at own best other then other else best) else best)
best_next at P own best other In Then is cover = by_room (cases_Bool (P other)) where
  f : ℕ → ℕ
  f = slice_index at

  equals : f best ≡ f other → is_better at own best other ≡ (if best == own then false else nat_lt other best)
  equals same = cond-true (slice_index at best == slice_index at other) (if best == own then false else nat_lt other best) (nat_lt (slice_index at best) (slice_index at other)) (eq-eqb (slice_index at best) (slice_index at other) same)

  unlike : f best ≢ f other → is_better at own best other ≡ nat_lt (f best) (f other)
  unlike apart = cond-false (slice_index at best == slice_index at other) (if best == own then false else nat_lt other best) (nat_lt (slice_index at best) (slice_index at other)) (ne_eqb (slice_index at best) (slice_index at other) apart)

  owns : best ≡ own → (if best == own then false else nat_lt other best) ≡ false
  owns mine = cond-true (best == own) false (nat_lt other best) (eq-eqb best own mine)

  differs : best ≢ own → (if best == own then false else nat_lt other best) ≡ nat_lt other best
  differs away = cond-false (best == own) false (nat_lt other best) (ne_eqb best own away)

  above : best ≢ own → f best ≡ f other → f own < f other
  above away equal = elim is.place [ inl mine ↦ absurd (away mine) | inr more ↦ (let less = more.1 in omega (arith, less, equal)) ]

  first : (p : ℕ) → best ≢ own → other < best → (best ≡ own) ⊎ (best ≤ p) → other ≤ p
  first p away less (inl mine) = absurd (away mine)
  first p away less (inr up) = omega (arith, less, up)

  by_test : P other ≡ true → (f best ≡ f other) ⊎ (f best ≢ f other) → (best ≡ own) ⊎ (best ≢ own) → (other < best) ⊎ (best ≤ other) → (f best < f other) ⊎ (f other ≤ f best) → IsBest f P own Then (if is_better at own best other then other else best)
  by_test room (inl equal) (inl mine) place more =
      let test : is_better at own best other ≡ false = equals equal ∙ owns mine in
      subst (IsBest f P own Then) (sym (cond-false (is_better at own best other) other best test)) (stays f P own In Then best other is cover (λ passes. omega (arith, equal)) (λ passes same. inl mine))
  by_test room (inl equal) (inr away) (inl less) more =
      let test : is_better at own best other ≡ true = equals equal ∙ (differs away ∙ lt-ltb other best less) in
      subst (IsBest f P own Then) (sym (cond-true (is_better at own best other) other best test)) (goes f P own In Then best other is cover room (above away equal) (omega (arith, equal)) (λ p old passes same. first p away less (is.least p old passes (same ∙ sym equal))))
  by_test room (inl equal) (inr away) (inr past) more =
      let test : is_better at own best other ≡ false = equals equal ∙ (differs away ∙ le-ltb other best past) in
      subst (IsBest f P own Then) (sym (cond-false (is_better at own best other) other best test)) (stays f P own In Then best other is cover (λ passes. omega (arith, equal)) (λ passes same. inr past))
  by_test room (inr apart) mine place (inl more) =
      let test : is_better at own best other ≡ true = unlike apart ∙ lt-ltb (f best) (f other) more in
      let up = own_most f P own In Then best other is cover in
      subst (IsBest f P own Then) (sym (cond-true (is_better at own best other) other best test)) (goes f P own In Then best other is cover room (omega (arith, up, more)) (omega (arith, more)) (λ p old passes same. absurd (let had = is.most p old passes in omega (arith, had, same, more))))
  by_test room (inr apart) mine place (inr less) =
      let test : is_better at own best other ≡ false = unlike apart ∙ le-ltb (f best) (f other) less in
      subst (IsBest f P own Then) (sym (cond-false (is_better at own best other) other best test)) (stays f P own In Then best other is cover (λ passes. less) (λ passes same. absurd (apart (sym same))))

  by_room : (P other ≡ true) ⊎ (P other ≡ false) → IsBest f P own Then (if P other then (if is_better at own best other then other else best) else best)
  by_room (inl room) = subst (IsBest f P own Then) (sym (cond-true (P other) (if is_better at own best other then other else best) best room)) (by_test room (cases_eq (f best) (f other)) (cases_eq best own) (cases_lt other best) (cases_lt (f best) (f other)))
  by_room (inr none) = subst (IsBest f P own Then) (sym (cond-false (P other) (if is_better at own best other then other else best) best none)) (stays f P own In Then best other is cover (λ passes. absurd (both_ways (P other) none passes)) (λ passes same. absurd (both_ways (P other) none passes)))

-- what one port more does to the choice: it is chosen, or nothing changes
most_cases : (f : ℕ → ℕ) (P : ℕ → Bool) (own m : ℕ) → ((P m ≡ true) × (f (most_of f P own m) < f m) × (most_of f P own (suc m) ≡ m)) ⊎ ((P m ≡ true → f m ≤ f (most_of f P own m)) × (most_of f P own (suc m) ≡ most_of f P own m))
most_cases f P own m = by_test (cases_Bool (P m)) (cases_lt (f (most_of f P own m)) (f m)) where
  next : most_of f P own (suc m) ≡ (if P m then (if nat_lt (f (most_of f P own m)) (f m) then m else most_of f P own m) else most_of f P own m)
  next = sym (subst (λ k. (if P m then (if nat_lt (f (most_of f P own m)) (f m) then m else most_of f P own m) else most_of f P own m) ≡ most_of f P own k) (add-one m) (most_more f P own m (most_of f P own m) refl))

  by_test : (P m ≡ true) ⊎ (P m ≡ false) → (f (most_of f P own m) < f m) ⊎ (f m ≤ f (most_of f P own m))
      → ((P m ≡ true) × (f (most_of f P own m) < f m) × (most_of f P own (suc m) ≡ m)) ⊎ ((P m ≡ true → f m ≤ f (most_of f P own m)) × (most_of f P own (suc m) ≡ most_of f P own m))
  by_test (inr fails) more = inr ((λ passes. absurd (both_ways (P m) fails passes)), next ∙ cond-false (P m) (if nat_lt (f (most_of f P own m)) (f m) then m else most_of f P own m) (most_of f P own m) fails)
  by_test (inl passes) (inl less) = inl (
    passes,
    less,
    next ∙ (cond-true (P m) (if nat_lt (f (most_of f P own m)) (f m) then m else most_of f P own m) (most_of f P own m) passes ∙ cond-true (nat_lt (f (most_of f P own m)) (f m)) m (most_of f P own m) (lt-ltb (f (most_of f P own m)) (f m) less)),
  )
  by_test (inl passes) (inr up) = inr (
    (λ is. up),
    next ∙ (cond-true (P m) (if nat_lt (f (most_of f P own m)) (f m) then m else most_of f P own m) (most_of f P own m) passes ∙ cond-false (nat_lt (f (most_of f P own m)) (f m)) m (most_of f P own m) (le-ltb (f (most_of f P own m)) (f m) up)),
  )

module _ (f : ℕ → ℕ) (P : ℕ → Bool) (own n best : ℕ) (is : IsBest f P own (λ p. p < n) best) where
  -- where none has more than the own one, it stays
  own_stays : best ≡ own → (m : ℕ) → m ≤ n → most_of f P own m ≡ own
  own_stays mine zero up = refl
  own_stays mine (suc m) up = by_step (own_stays mine m (omega (arith, up))) (most_cases f P own m) where
    by_step : most_of f P own m ≡ own → ((P m ≡ true) × (f (most_of f P own m) < f m) × (most_of f P own (suc m) ≡ m)) ⊎ ((P m ≡ true → f m ≤ f (most_of f P own m)) × (most_of f P own (suc m) ≡ most_of f P own m)) → most_of f P own (suc m) ≡ own
    by_step before (inr kept) = kept.1 ∙ before
    by_step before (inl taken) =
        let most : f m ≤ f best = is.most m (omega (arith, up)) taken.0 in
        let less : f (most_of f P own m) < f m = taken.1 in
        let at : f (most_of f P own m) ≡ f best = ap f (before ∙ sym mine) in
        absurd (omega (arith, most, less, at))

  -- before the best one, all have less
  less_before : best ≢ own → f own < f best → (m : ℕ) → m ≤ n → m ≤ best → f (most_of f P own m) < f best
  less_before apart more zero up low = more
  less_before apart more (suc m) up low = by_step (less_before apart more m (omega (arith, up)) (omega (arith, low))) (most_cases f P own m) where
    no_place : (best ≡ own) ⊎ (best ≤ m) → ⊥
    no_place (inl mine) = apart mine
    no_place (inr past) = omega (arith, past, low)

    by_step : f (most_of f P own m) < f best → ((P m ≡ true) × (f (most_of f P own m) < f m) × (most_of f P own (suc m) ≡ m)) ⊎ ((P m ≡ true → f m ≤ f (most_of f P own m)) × (most_of f P own (suc m) ≡ most_of f P own m)) → f (most_of f P own (suc m)) < f best
    by_step before (inr kept) = let at : f (most_of f P own (suc m)) ≡ f (most_of f P own m) = ap f kept.1 in omega (arith, at, before)
    by_step before (inl taken) =
        let at : f (most_of f P own (suc m)) ≡ f m = ap f taken.2 in
        let most : f m ≤ f best = is.most m (omega (arith, up)) taken.0 in
        elim (cases_eq (f m) (f best)) [
          | inl equal ↦ absurd (no_place (is.least m (omega (arith, up)) taken.0 equal))
          | inr differ ↦ omega (arith, at, most, differ)
        ]

  -- from then on it is chosen
  best_after : best ≢ own → P best ≡ true → f own < f best → (m : ℕ) → m ≤ n → best < m → most_of f P own m ≡ best
  best_after apart passes more zero up low = absurd (omega (arith, low))
  best_after apart passes more (suc m) up low = by_step (cases_eq m best) (most_cases f P own m) (λ past. best_after apart passes more m (omega (arith, up)) past) where
    by_step : (m ≡ best) ⊎ (m ≢ best) → ((P m ≡ true) × (f (most_of f P own m) < f m) × (most_of f P own (suc m) ≡ m)) ⊎ ((P m ≡ true → f m ≤ f (most_of f P own m)) × (most_of f P own (suc m) ≡ most_of f P own m))
        → (best < m → most_of f P own m ≡ best) → most_of f P own (suc m) ≡ best
    by_step (inl here) (inl taken) before = taken.2 ∙ here
    by_step (inl here) (inr kept) before =
        let none : f m ≤ f (most_of f P own m) = kept.0 (ap P here ∙ passes) in
        let less = less_before apart more m (omega (arith, up)) (omega (arith, here)) in
        let at : f m ≡ f best = ap f here in
        absurd (omega (arith, none, less, at))
    by_step (inr away) (inr kept) before = kept.1 ∙ before (omega (arith, low, away))
    by_step (inr away) (inl taken) before =
        let there : most_of f P own m ≡ best = before (omega (arith, low, away)) in
        let at : f (most_of f P own m) ≡ f best = ap f there in
        let less : f (most_of f P own m) < f m = taken.1 in
        let most : f m ≤ f best = is.most m (omega (arith, up)) taken.0 in
        absurd (omega (arith, at, less, most))

  -- the best of all ports below n is the first with the most
  pub best_is_first : best < n → best ≡ most_of f P own n
  best_is_first low = elim (cases_eq best own) [
    | inl mine ↦ mine ∙ sym (own_stays mine n (omega arith))
    | inr apart ↦ elim is.place [
      | inl mine ↦ absurd (apart mine)
      | inr more ↦ sym (best_after apart more.0 more.1 n (omega arith) low)
    ]
  ]

-- where no other ports than those in a list have anything, the best of the list is the best of all
pub best_of_all : (at touched : List ℕ) (P : ℕ → Bool) (own best : ℕ) → ((p : ℕ) → p < length at → get_or at p 0 ≢ 0 → Contains touched p) → IsBest (slice_index at) P own (Contains touched) best → IsBest (slice_index at) P own (λ p. p < length at) best
best_of_all at touched P own best whole is = record {
  place = is.place;
  most = λ p low passes. elim (cases_eq (get_or at p 0) 0) [
    | inl none ↦ omega (arith, none)
    | inr some ↦ is.most p (whole p low some) passes
  ];
  least = λ p low passes equal. elim (cases_eq (get_or at p 0) 0) [
    | inl none ↦ inl (mine p equal none)
    | inr some ↦ is.least p (whole p low some) passes equal
  ];
} where
  mine : (p : ℕ) → slice_index at p ≡ slice_index at best → get_or at p 0 ≡ 0 → best ≡ own
  mine p equal none = elim is.place [ inl same ↦ same | inr more ↦ (let less = more.1 in absurd (omega (arith, less, equal, none))) ]

-- ---- what the loop asks

pub best_before : (at touched : List ℕ) (P : ℕ → Bool) (own best k : ℕ) → k < length touched → IsBest (slice_index at) P own (Contains (take k touched)) best
    → IsBest (slice_index at) P own (Contains (take (k + 1) touched)) (if P (get_or touched k 0) then (if is_better at own best (get_or touched k 0) then get_or touched k 0 else best) else best)
best_before at touched P own best k low is = best_next at P own best (get_or touched k 0) (Contains (take k touched)) (Contains (take (k + 1) touched)) is
    (λ p has. Contains-push_cases (take k touched) (get_or touched k 0) p (subst (λ xs. Contains xs p) (ap (λ m. take m touched) (add-one k) ∙ take-suc touched k 0 low) has))

pub strongest_is : (pulls : Pulls) (at touched : List ℕ) (P : ℕ → Bool) (own best k : ℕ) → AreTouched pulls → at ≡ pulls.at → touched ≡ pulls.touched → length touched ≤ k → IsBest (slice_index at) P own (Contains (take k touched)) best → best < length at
    → best ≡ most_of (slice_index pulls.at) P own (length pulls.at)
strongest_is pulls at touched P own best k are at_is touched_is whole is low =
    let all : take k touched ≡ pulls.touched = take_all k touched whole ∙ touched_is in
    let here : IsBest (slice_index pulls.at) P own (Contains pulls.touched) best = subst (λ xs. IsBest (slice_index pulls.at) P own (Contains xs) best) all (subst (λ (xs : List ℕ). IsBest (slice_index xs) P own (Contains (take k touched)) best) at_is is) in
    best_is_first (slice_index pulls.at) P own (length pulls.at) best (best_of_all pulls.at pulls.touched P own best are.whole here) (subst (λ (xs : List ℕ). best < length xs) at_is low)
