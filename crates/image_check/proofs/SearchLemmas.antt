-- Numbers that are searched for in lists that rise.
use Rattle.std.proofs.Common.{◌≡◌, ℕ, suc, ◌<◌, ◌≤◌, ◌==◌, false, List, [], ◌∷◌, length, get_or, slice_index_or, Some, None, slice_get, Option, Err, nat_cmp, inl, inr, sym, ap, ◌∙◌, subst, refl, arith, rules, tests}
use Rattle.std.proofs.lemmas.{Bool.cases_lt, Bool.cond-false, List.Sorted.searched}
use Rattle.std.proofs.lemmas.Option.{slice_get_within, slice_get-get_or, get_or_from_slice_get}
use Rattle.std.specs.{List.find, List.Sorted.IsStrictlyIncreasing, List.Sorted.IsBinarySearchResult, Option.option_map, Option.unwrap_or}
use Rattle.list_laws.proofs.Members.{mapped_at}
use Rattle.image_defs.specs.{declared.image.LinkIn.LinkIn, Places.Stands, Places.in_slots, Places.sender_in}
use Rattle.image_defs.proofs.lemmas.PlaceLemmas.{rises, sender_found}

-- numbers that rise don't fall from one place to a later one
pub rises_far : (xs : List ℕ) → IsStrictlyIncreasing xs → (i j : ℕ) → i ≤ j → j < length xs → get_or xs i 0 ≤ get_or xs j 0
rises_far xs up i j before within = elim (cases_lt i j) [
  | inl less ↦
      let far = rises xs up i j (get_or xs i 0) (get_or xs j 0) less (slice_get-get_or xs i 0 (omega (arith, less, within))) (slice_get-get_or xs j 0 within) in
      omega (arith, far)
  | inr more ↦
      let same : i ≡ j = omega (arith, more, before) in
      let e = ap (λ k. get_or xs k 0) same in
      omega (arith, e)
]

-- what a search doesn't find is not there
pub not_found : (xs : List ℕ) (x place : ℕ) → IsStrictlyIncreasing xs → IsBinarySearchResult (λ y. nat_cmp y x) xs (Err place) → Stands xs x → ⊥
not_found xs x place up by_search at =
    let said = searched xs x (Err place) by_search (rises_far xs up) in
    let within = slice_get_within xs at.0 x at.1 in
    let is = get_or_from_slice_get xs at.0 x 0 at.1 in
    elim (cases_lt at.0 place) [
      | inl low ↦ let less = said.1 at.0 low in omega (arith, less, is)
      | inr high ↦ let more = said.2 at.0 (omega (arith, high)) within in omega (arith, more, is)
    ]

-- a number stands once in a list that rises
pub one_place : (xs : List ℕ) (i j x : ℕ) → IsStrictlyIncreasing xs → slice_get xs i ≡ Some x → slice_get xs j ≡ Some x → i ≡ j
one_place xs i j x up here there = elim (cases_lt i j) [
  | inl less ↦ let far = rises xs up i j x x less here there in absurd (omega (arith, far))
  | inr more ↦ elim (cases_lt j i) [
    | inl less ↦ let far = rises xs up j i x x less there here in absurd (omega (arith, far))
    | inr also ↦ omega (arith, more, also)
  ]
]

other : (s t : ℕ) → (s ≡ t → ⊥) → (s == t) ≡ false
other s t differ = search (rules, tests)

nothing_found : (links : List LinkIn) (slot : ℕ) → (Stands (in_slots links) slot → ⊥) → find (λ l. l.slot == slot) links ≡ None
nothing_found [] slot none = refl
nothing_found (l ∷ links) slot none =
    cond-false {A = Option LinkIn} (l.slot == slot) _ _ (other l.slot slot (λ is. none (0, ap Some is)))
    ∙ nothing_found links slot (λ at. none (suc at.0, at.1))

-- the sender of a slot in which nothing is received
pub sender_absent : (links : List LinkIn) (slots : List ℕ) (slot : ℕ) → slots ≡ in_slots links → (Stands slots slot → ⊥) → 0 ≡ sender_in links slot
unfolding sender_in
sender_absent links slots slot are none =
    sym (ap (λ o. unwrap_or (option_map (λ l. l.sender) o) 0) (nothing_found links slot (subst (λ xs. Stands xs slot → ⊥) are none)))

-- the sender of a slot, by the place of the link
pub sender_there : (links : List LinkIn) (slots : List ℕ) (slot place : ℕ) (d : LinkIn) → slots ≡ in_slots links → IsStrictlyIncreasing slots → slice_get slots place ≡ Some slot
    → (slice_index_or links place d).sender ≡ sender_in links slot
sender_there links slots slot place d are up here =
    let at = mapped_at (λ l. l.slot) links place slot (subst (λ xs. slice_get xs place ≡ Some slot) are here) in
    let link = at.0 in
    let found = sender_found links place link (subst IsStrictlyIncreasing are up) at.1 in
    let read : slice_index_or links place d ≡ link = get_or_from_slice_get links place link d at.1 in
    ap (λ l. l.sender) read ∙ sym found ∙ ap (sender_in links) at.2
