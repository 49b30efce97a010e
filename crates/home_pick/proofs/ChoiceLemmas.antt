-- The port that is chosen for a node.
use Rattle.std.proofs.Common.{◌≡◌, ◌∙◌, ◌⊎◌, inl, inr, ℕ, zero, suc, ◌+◌, ◌<◌, ◌≤◌, Bool, true, false, [], ◌∷◌, ◌++◌, refl, sym, ap, subst, arith, if◌then◌else◌}
use Rattle.std.proofs.lemmas.Bool.{cases_lt, cases_Bool, ltb-true, ltb-false, lt-ltb, le-ltb, cond-true, cond-false}
use Rattle.std.proofs.{Math.Numerals.add-one, lemmas.List.Elements.filter-append, lemmas.List.Sums.fold-append}
use Rattle.std.specs.{Prelude.nat_lt, List.filter, List.fold, List.range_with_len}
use Rattle.list_laws.proofs.Ranges.{range_next}
use Rattle.home_pick.specs.{Better.first_least, code.Moves.first_most}

range_suc : (n : ℕ) → range_with_len 0 (suc n) ≡ range_with_len 0 n ++ n ∷ []
range_suc n = subst (λ m. range_with_len 0 m ≡ range_with_len 0 n ++ n ∷ []) (add-one n) (range_next n)

-- a fold over what passes: one number more
fold_passing : (step : ℕ → ℕ → ℕ) (P : ℕ → Bool) (own n : ℕ) → fold step own (filter P (range_with_len 0 (suc n))) ≡ (if P n then step (fold step own (filter P (range_with_len 0 n))) n else fold step own (filter P (range_with_len 0 n)))
fold_passing step P own n =
    ap (λ xs. fold step own (filter P xs)) (range_suc n) ∙ (ap (fold step own) (filter-append P (range_with_len 0 n) (n ∷ []))
    ∙ (fold-append step own (filter P (range_with_len 0 n)) (filter P (n ∷ [])) ∙ by_test (fold step own (filter P (range_with_len 0 n))) (cases_Bool (P n))))
  where
    by_test : (b : ℕ) → (P n ≡ true) ⊎ (P n ≡ false) → fold step b (filter P (n ∷ [])) ≡ (if P n then step b n else b)
    by_test b (inl passes) = rw passes refl
    by_test b (inr fails) = rw fails refl

-- the choice among the ports below n
abbrev pub least_of : (ℕ → ℕ) → (ℕ → Bool) → ℕ → ℕ → ℕ
least_of f P own n = first_least f own (filter P (range_with_len 0 n))

abbrev pub most_of : (ℕ → ℕ) → (ℕ → Bool) → ℕ → ℕ → ℕ
most_of f P own n = first_most f own (filter P (range_with_len 0 n))

-- what one port more does: nothing, or it is chosen
least_cases : (f : ℕ → ℕ) (P : ℕ → Bool) (own n : ℕ) → ((P n ≡ true) × (f n < f (least_of f P own n)) × (least_of f P own (suc n) ≡ n)) ⊎ (((P n ≡ true → f (least_of f P own n) ≤ f n)) × (least_of f P own (suc n) ≡ least_of f P own n))
least_cases f P own n = by_test (cases_Bool (P n)) (cases_Bool (nat_lt (f n) (f (least_of f P own n)))) where
  next : least_of f P own (suc n) ≡ (if P n then (if nat_lt (f n) (f (least_of f P own n)) then n else least_of f P own n) else least_of f P own n)
  next = fold_passing (λ best other. if nat_lt (f other) (f best) then other else best) P own n

  by_test : (P n ≡ true) ⊎ (P n ≡ false) → (nat_lt (f n) (f (least_of f P own n)) ≡ true) ⊎ (nat_lt (f n) (f (least_of f P own n)) ≡ false)
      → ((P n ≡ true) × (f n < f (least_of f P own n)) × (least_of f P own (suc n) ≡ n)) ⊎ (((P n ≡ true → f (least_of f P own n) ≤ f n)) × (least_of f P own (suc n) ≡ least_of f P own n))
  by_test (inr fails) test = inr ((λ is. cc (is, fails)), next ∙ cond-false (P n) (if nat_lt (f n) (f (least_of f P own n)) then n else least_of f P own n) (least_of f P own n) fails)
  by_test (inl passes) (inl less) = inl (
    passes,
    ltb-true (f n) (f (least_of f P own n)) less,
    next ∙ (cond-true (P n) (if nat_lt (f n) (f (least_of f P own n)) then n else least_of f P own n) (least_of f P own n) passes ∙ cond-true (nat_lt (f n) (f (least_of f P own n))) n (least_of f P own n) less),
  )
  by_test (inl passes) (inr more) = inr (
    (λ is. ltb-false (f n) (f (least_of f P own n)) more),
    next ∙ (cond-true (P n) (if nat_lt (f n) (f (least_of f P own n)) then n else least_of f P own n) (least_of f P own n) passes ∙ cond-false (nat_lt (f n) (f (least_of f P own n))) n (least_of f P own n) more),
  )

-- it is the own one, or it has less
pub least_less : (f : ℕ → ℕ) (P : ℕ → Bool) (own n : ℕ) → (least_of f P own n ≡ own) ⊎ (f (least_of f P own n) < f own)
least_less f P own zero = inl refl
least_less f P own (suc n) = by_step (least_less f P own n) (least_cases f P own n) where
  by_step : (least_of f P own n ≡ own) ⊎ (f (least_of f P own n) < f own)
      → ((P n ≡ true) × (f n < f (least_of f P own n)) × (least_of f P own (suc n) ≡ n)) ⊎ (((P n ≡ true → f (least_of f P own n) ≤ f n)) × (least_of f P own (suc n) ≡ least_of f P own n))
      → (least_of f P own (suc n) ≡ own) ⊎ (f (least_of f P own (suc n)) < f own)
  by_step (inl same) (inr kept) = inl (kept.1 ∙ same)
  by_step (inr less) (inr kept) = inr (let at : f (least_of f P own (suc n)) ≡ f (least_of f P own n) = ap f kept.1 in omega (arith, at, less))
  by_step (inl same) (inl taken) = inr (let at : f (least_of f P own (suc n)) ≡ f n = ap f taken.2 in let before : f (least_of f P own n) ≡ f own = ap f same in let low = taken.1 in omega (arith, at, before, low))
  by_step (inr less) (inl taken) = inr (let at : f (least_of f P own (suc n)) ≡ f n = ap f taken.2 in let low = taken.1 in omega (arith, at, less, low))

-- it is the own one, or one of those that pass
pub least_where : (f : ℕ → ℕ) (P : ℕ → Bool) (own n : ℕ) → (least_of f P own n ≡ own) ⊎ ((P (least_of f P own n) ≡ true) × (least_of f P own n < n))
least_where f P own zero = inl refl
least_where f P own (suc n) = by_step (least_where f P own n) (least_cases f P own n) where
  by_step : (least_of f P own n ≡ own) ⊎ ((P (least_of f P own n) ≡ true) × (least_of f P own n < n))
      → ((P n ≡ true) × (f n < f (least_of f P own n)) × (least_of f P own (suc n) ≡ n)) ⊎ (((P n ≡ true → f (least_of f P own n) ≤ f n)) × (least_of f P own (suc n) ≡ least_of f P own n))
      → (least_of f P own (suc n) ≡ own) ⊎ ((P (least_of f P own (suc n)) ≡ true) × (least_of f P own (suc n) < suc n))
  by_step (inl same) (inr kept) = inl (kept.1 ∙ same)
  by_step (inr is) (inr kept) = inr (ap P kept.1 ∙ is.0, (let low = is.1 in let at = kept.1 in omega (arith, low, at)))
  by_step before (inl taken) = inr (ap P taken.2 ∙ taken.0, (let at = taken.2 in omega (arith, at)))

-- none that passes has less
pub least_low : (f : ℕ → ℕ) (P : ℕ → Bool) (own n p : ℕ) → p < n → P p ≡ true → f (least_of f P own n) ≤ f p
least_low f P own zero p low passes = absurd (omega (arith, low))
least_low f P own (suc n) p low passes = by_step (λ below. least_low f P own n p below passes) (least_cases f P own n) (cases_lt p n) where
  by_step : (p < n → f (least_of f P own n) ≤ f p)
      → ((P n ≡ true) × (f n < f (least_of f P own n)) × (least_of f P own (suc n) ≡ n)) ⊎ (((P n ≡ true → f (least_of f P own n) ≤ f n)) × (least_of f P own (suc n) ≡ least_of f P own n))
      → (p < n) ⊎ (n ≤ p) → f (least_of f P own (suc n)) ≤ f p
  by_step before (inr kept) (inl below) = let at : f (least_of f P own (suc n)) ≡ f (least_of f P own n) = ap f kept.1 in let had = before below in omega (arith, at, had)
  by_step before (inl taken) (inl below) = let at : f (least_of f P own (suc n)) ≡ f n = ap f taken.2 in let had = before below in let less = taken.1 in omega (arith, at, had, less)
  by_step before (inr kept) (inr from) =
      let here : p ≡ n = omega (arith, low, from) in
      let at : f (least_of f P own (suc n)) ≡ f (least_of f P own n) = ap f kept.1 in
      let no_less : f (least_of f P own n) ≤ f n = kept.0 (ap P (sym here) ∙ passes) in
      let same : f p ≡ f n = ap f here in
      omega (arith, at, no_less, same)
  by_step before (inl taken) (inr from) =
      let here : p ≡ n = omega (arith, low, from) in
      let at : f (least_of f P own (suc n)) ≡ f n = ap f taken.2 in
      let same : f p ≡ f n = ap f here in
      omega (arith, at, same)

-- where f and g come to the same at every port, the least f is the greatest g
pub least_is_most : (f g : ℕ → ℕ) (P Q : ℕ → Bool) (own m n k : ℕ) → m ≤ n → own < n → ((p : ℕ) → p < n → f p + g p ≡ k) → ((p : ℕ) → p < n → P p ≡ Q p) → least_of f P own m ≡ most_of g Q own m
least_is_most f g P Q own zero n k up low sum same = refl
least_is_most f g P Q own (suc m) n k up low sum same =
    let before : least_of f P own m ≡ most_of g Q own m = least_is_most f g P Q own m n k (omega (arith, up)) low sum same in
    let b = least_of f P own m in
    let inside : least_of f P own m < n = elim (least_where f P own m) [ inl is ↦ omega (arith, is, low) | inr is ↦ (let below = is.1 in omega (arith, below, up)) ] in
    let one : f b + g b ≡ k = sum b inside in
    let other : f m + g m ≡ k = sum m (omega (arith, up)) in
    let tests : nat_lt (f m) (f b) ≡ nat_lt (g b) (g m) = elim (cases_lt (f m) (f b)) [
      | inl less ↦ lt-ltb (f m) (f b) less ∙ sym (lt-ltb (g b) (g m) (omega (arith, one, other, less)))
      | inr more ↦ le-ltb (f m) (f b) more ∙ sym (le-ltb (g b) (g m) (omega (arith, one, other, more)))
    ] in
    fold_passing (λ best next. if nat_lt (f next) (f best) then next else best) P own m
    ∙ (ap (λ t. if t then (if nat_lt (f m) (f b) then m else b) else b) (same m (omega (arith, up)))
    ∙ (ap (λ t. if Q m then (if t then m else b) else b) tests
    ∙ (ap (λ x. if Q m then (if nat_lt (g x) (g m) then m else x) else x) before
    ∙ sym (fold_passing (λ best next. if nat_lt (g best) (g next) then next else best) Q own m))))

pub most_more : (g : ℕ → ℕ) (Q : ℕ → Bool) (own n best : ℕ) → best ≡ most_of g Q own n → (if Q n then (if nat_lt (g best) (g n) then n else best) else best) ≡ most_of g Q own (n + 1)
most_more g Q own n best is =
    ap (λ b. if Q n then (if nat_lt (g b) (g n) then n else b) else b) is
    ∙ sym (subst (λ m. most_of g Q own m ≡ (if Q n then (if nat_lt (g (most_of g Q own n)) (g n) then n else most_of g Q own n) else most_of g Q own n)) (sym (add-one n))
    (fold_passing (λ b other. if nat_lt (g b) (g other) then other else b) Q own n))
