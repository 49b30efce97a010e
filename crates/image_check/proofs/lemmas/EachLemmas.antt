-- What holds of the members of a list that have been looked at.
use Rattle.std.proofs.Common.{◌≡◌, ◌↔◌, IsTrue, Bool, true, false, rules, ℕ, ◌+◌, ◌<◌, ◌≤◌, List, [], ◌∷◌, ◌++◌, length, get_or, Some, slice_get, inl, inr, sym, ◌∙◌, subst, refl, arith}
use Rattle.std.proofs.lemmas.{List.length_push, Option.slice_get_within, Option.slice_get-get_or}
use Rattle.list_laws.proofs.Places.{at_front, seam_at, one_there, indexed}
use Rattle.list_laws.proofs.Ranges.{last_or}
use Rattle.image_defs.specs.Places.{Each}

-- it holds of the first n members
abbrev pub EachBelow : {X : Type 0} → (X → Type 0) → ℕ → List X → Type 0
EachBelow {X} P n xs = (i : ℕ) (x : X) → i < n → slice_get xs i ≡ Some x → P x

pub each_more : {X : Type 0} (P : X → Type 0) (k : ℕ) (xs : List X) (here : X) → EachBelow P k xs → slice_get xs k ≡ Some here → P here → EachBelow P (k + 1) xs
each_more P k xs here before at holds i x low there = elim (last_or i k low) [
  | inl less ↦ before i x less there
  | inr same ↦ subst P (one_there xs k i here x (sym same) at there) holds
]

pub each_all : {X : Type 0} (P : X → Type 0) (n : ℕ) (xs : List X) → length xs ≤ n → EachBelow P n xs → Each P xs
each_all P n xs all so_far i x here = let low = slice_get_within xs i x here in so_far i x (omega (arith, low, all)) here

-- it holds of each member and its place, also of one that is added
pub each_pushed : {Y : Type 0} (P : ℕ → Y → Type 0) (n : ℕ) (ys : List Y) (y : Y) → length ys ≡ n → ((i : ℕ) (x : Y) → slice_get ys i ≡ Some x → P i x) → P n y
    → (i : ℕ) (x : Y) → slice_get (ys ++ y ∷ []) i ≡ Some x → P i x
each_pushed P n ys y long before last i x here =
    let low = slice_get_within (ys ++ y ∷ []) i x here in
    elim (last_or i n (omega (arith, low, length_push ys y, long))) [
      | inl less ↦ before i x (sym (at_front ys (y ∷ []) i (omega (arith, less, long))) ∙ here)
      | inr same ↦
          let at_end : length ys ≡ i = omega (arith, long, same) in
          let is : y ≡ x = one_there (ys ++ y ∷ []) (length ys) i y x at_end (seam_at ys y []) here in
          subst (P i) is (subst (λ m. P m y) (sym same) last)
    ]

-- the next member of a list, read as a reference or as a value
pub each_next : {X : Type 0} (P : X → Type 0) (k : ℕ) (xs : List X) (here : X) → EachBelow P k xs → k < length xs → here ≡ get_or xs k here → P here → EachBelow P (k + 1) xs
each_next P k xs here before within is holds = each_more P k xs here before (indexed xs xs k here refl within is) holds

pub each_read : {X : Type 0} (P : X → Type 0) (k : ℕ) (xs : List X) (d : X) → EachBelow P k xs → k < length xs → P (get_or xs k d) → EachBelow P (k + 1) xs
each_read P k xs d before within holds = each_more P k xs (get_or xs k d) before (slice_get-get_or xs k d within) holds

-- all members have been looked at, and it holds of each
pub each_done : {X : Type 0} (P : X → Type 0) (n : ℕ) (xs : List X) → length xs ≤ n → EachBelow P n xs → IsTrue true ↔ Each P xs
each_done P n xs all so_far = (λ _. each_all P n xs all so_far, λ _. search rules)

-- both hold, where the first does
pub second_left : {A B : Type 0} (r : Bool) → A → IsTrue r ↔ B → IsTrue r ↔ (A × B)
second_left r first said = (λ is. (first, said.0 is), λ both. said.1 both.1)

-- it holds of the first n members and their places
abbrev pub EachAtBelow : {X : Type 0} → (ℕ → X → Type 0) → ℕ → List X → Type 0
EachAtBelow {X} P n xs = (i : ℕ) (x : X) → i < n → slice_get xs i ≡ Some x → P i x

pub each_at_more : {X : Type 0} (P : ℕ → X → Type 0) (k : ℕ) (xs : List X) (here : X) → EachAtBelow P k xs → slice_get xs k ≡ Some here → P k here → EachAtBelow P (k + 1) xs
each_at_more P k xs here before at holds i x low there = elim (last_or i k low) [
  | inl less ↦ before i x less there
  | inr same ↦ subst (λ n. P n x) (sym same) (subst (P k) (one_there xs k i here x (sym same) at there) holds)
]

pub each_at_all : {X : Type 0} (P : ℕ → X → Type 0) (n : ℕ) (xs : List X) → length xs ≤ n → EachAtBelow P n xs → (i : ℕ) (x : X) → slice_get xs i ≡ Some x → P i x
each_at_all P n xs all so_far i x here = let low = slice_get_within xs i x here in so_far i x (omega (arith, low, all)) here

-- where a part isn't so the whole isn't
pub no_part : {A W : Type 0} → IsTrue false ↔ A → (W → A) → IsTrue false ↔ W
no_part is part = (λ f. cc, λ w. is.1 (part w))

-- one that is looked at isn't so, read as a reference or as a value
pub each_not : {X : Type 0} (P : X → Type 0) (k : ℕ) (xs : List X) (here : X) → k < length xs → here ≡ get_or xs k here → IsTrue false ↔ P here → IsTrue false ↔ Each P xs
each_not P k xs here within is said = no_part said (λ (each : Each P xs). each k here (indexed xs xs k here refl within is))

pub each_read_not : {X : Type 0} (P : X → Type 0) (k : ℕ) (xs : List X) (d : X) → k < length xs → IsTrue false ↔ P (get_or xs k d) → IsTrue false ↔ Each P xs
each_read_not P k xs d within said = no_part said (λ (each : Each P xs). each k (get_or xs k d) (slice_get-get_or xs k d within))
