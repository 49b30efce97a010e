-- Lists in slot order that grow.
use Rattle.std.proofs.Common.{◌≡◌, ◌≢◌, ◌∙◌, ◌⊎◌, inl, inr, ℕ, zero, suc, ◌+◌, ◌<◌, List, [], ◌∷◌, ◌++◌, length, map, get_or, Some, slice_get, sym, ap, subst, arith}
use Rattle.std.proofs.lemmas.List.{get_or_append_left, get_or_push, get_or-map, length_push, length-map, map-append}
use Rattle.std.proofs.lemmas.{Bool.cases_eq, Bool.cases_lt, Option.slice_get_within, Option.slice_get-get_or}
use Rattle.std.specs.List.{Contains, Sorted.IsStrictlyIncreasing}
use Rattle.list_laws.proofs.Places.{at_front, seam_at}
use Rattle.switch_set.specs.Links.{IsSlotList}

-- a number stands in a list or it doesn't
pub among : (xs : List ℕ) (x : ℕ) → Contains xs x ⊎ (Contains xs x → ⊥)
among [] x = inr (λ h. let low = h.1 in absurd (omega (arith, low)))
among (y ∷ xs) x = elim (cases_eq y x) [
  | inl same ↦ inl (0, omega arith, same)
  | inr other ↦ elim (among xs x) [
    | inl h ↦ (let low = h.1 in inl (suc h.0, omega (arith, low), h.2))
    | inr none ↦ inr (past other none)
  ]
] where
  past : y ≢ x → (Contains xs x → ⊥) → Contains (y ∷ xs) x → ⊥
  past other none (zero, low, is) = other is
  past other none (suc k, low, is) = none (k, omega (arith, low), is)

-- one more number, above all of them
rising_push : (xs : List ℕ) (y : ℕ) → IsStrictlyIncreasing xs → ((k : ℕ) → k < length xs → get_or xs k 0 < y) → IsStrictlyIncreasing (xs ++ y ∷ [])
rising_push xs y rising above k low = elim (cases_lt (k + 1) (length xs)) [
  | inl inside ↦
      let before : k < length xs = omega arith in
      rw (get_or_append_left xs (y ∷ []) 0 k before) (rw (get_or_append_left xs (y ∷ []) 0 (k + 1) inside) (rising k inside))
  | inr past ↦
      let last : length xs ≡ k + 1 = omega (arith, length_push xs y) in
      let before : k < length xs = omega arith in
      rw (get_or_append_left xs (y ∷ []) 0 k before) (rw (get_or_push xs y 0 (k + 1) last) (above k before))
]

-- what stands in a list to which one more is added
pub push_cases : {T : Type 0} (xs : List T) (y : T) (k : ℕ) (x : T) → slice_get (xs ++ y ∷ []) k ≡ Some x → (slice_get xs k ≡ Some x) ⊎ (y ≡ x)
push_cases xs y k x is = elim (cases_lt k (length xs)) [
  | inl inside ↦ inl (sym (at_front xs (y ∷ []) k inside) ∙ is)
  | inr past ↦
      let low = slice_get_within (xs ++ y ∷ []) k x is in
      let last : k ≡ length xs = omega (arith, length_push xs y, low, past) in
      inr (cc (ap (slice_get (xs ++ y ∷ [])) last, seam_at xs y []))
]

module _ {T : Type 0} (slot : T → ℕ) (IsOf : ℕ → T → Type 0) where
  -- the same items
  pub listed_same : (IsIn IsNow : ℕ → Type 0) (list : List T) → IsSlotList slot IsOf IsIn list → ((i : ℕ) → IsIn i → IsNow i) → ((i : ℕ) → IsNow i → IsIn i) → IsSlotList slot IsOf IsNow list
  listed_same IsIn IsNow list listed there back = record {
    rising = listed.rising;
    each = λ k x is. let found = listed.each k x is in (found.0, there found.0 found.1, found.2);
    whole = λ i now. listed.whole i (back i now);
  }

  -- no items
  pub listed_none : (IsIn : ℕ → Type 0) → ((i : ℕ) → IsIn i → ⊥) → IsSlotList slot IsOf IsIn []
  listed_none IsIn none = record {
    rising = λ k low. absurd (omega (arith, low));
    each = λ k x is. (let low = slice_get_within {A = T} [] k x is in absurd (omega (arith, low)));
    whole = λ i in_it. absurd (none i in_it);
  }

  -- one more item, of a slot above all of theirs
  pub listed_more : (IsIn IsNow : ℕ → Type 0) (list : List T) (i : ℕ) (x : T) → IsSlotList slot IsOf IsIn list
      → ((j : ℕ) (y : T) → IsIn j → IsOf j y → slot y < slot x)
      → ((j : ℕ) → IsIn j → IsNow j) → ((j : ℕ) → IsNow j → IsIn j ⊎ (j ≡ i)) → IsNow i → IsOf i x → IsSlotList slot IsOf IsNow (list ++ x ∷ [])
  listed_more IsIn IsNow list i x listed above there back here of = record {
    rising = subst IsStrictlyIncreasing (sym (map-append slot list (x ∷ []))) (rising_push (map slot list) (slot x) listed.rising below);
    each = λ k y is. elim (push_cases list x k y is) [
      | inl old ↦ (let found = listed.each k y old in (found.0, there found.0 found.1, found.2))
      | inr new ↦ (i, here, subst (IsOf i) new of)
    ];
    whole = λ j now. elim (back j now) [
      | inl old ↦ (let found = listed.whole j old in (found.0, found.1, at_front list (x ∷ []) found.0 (slice_get_within list found.0 found.1 found.2) ∙ found.2, found.3))
      | inr same ↦ (length list, x, seam_at list x [], subst (λ n. IsOf n x) (sym same) of)
    ];
  } where
    below : (k : ℕ) → k < length (map slot list) → get_or (map slot list) k 0 < slot x
    below k low =
        let inside : k < length list = rw length-map at low in
        let found = listed.each k (get_or list k x) (slice_get-get_or list k x inside) in
        rw (get_or-map slot list k x 0 inside) (above found.0 (get_or list k x) found.1 found.2)
