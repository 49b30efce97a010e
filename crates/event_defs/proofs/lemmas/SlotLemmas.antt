-- Slots among others, links by their slots, and functions that are changed at one number.
use Rattle.std.proofs.Common.{AllPairs, Bool, List, Some, [], ap, arith, eq-eqb, false, get_or, if◌then◌else◌, inl, inr, map, ne_eqb, option_map, refl, slice_get, subst, suc, sym, true, zero, ℕ, ◌++◌, ◌<◌, ◌==◌, ◌∙◌, ◌∷◌, ◌≡◌, ◌≢◌}
use Rattle.std.proofs.lemmas.Bool.{cases_eq, cases_order, false≢true, or_cases}
use Rattle.std.proofs.{Math.Path.fun_ext, lemmas.List.Folds.list_any-append, lemmas.List.Folds.list_any_at}
use Rattle.std.proofs.lemmas.Option.{get_or_from_slice_get, slice_get-map, slice_get_within}
use Rattle.std.specs.List.{list_any}
use Rattle.list_laws.proofs.Differ.{differ_push}
use Rattle.image_defs.proofs.lemmas.PlaceLemmas.{Rises}
use Rattle.image_defs.specs.Places.{Each}
use Rattle.event_defs.specs.{Places.is_in, Steps.updated}

pub updated_here : {X : Type 0} (f : ℕ → X) (p : ℕ) (x : X) → updated f p x p ≡ x
updated_here f p x = ap (λ b. if b then x else f p) (eq-eqb p p refl)

pub updated_there : {X : Type 0} (f : ℕ → X) (p q : ℕ) (x : X) → q ≢ p → updated f p x q ≡ f q
updated_there f p q x other = ap (λ b. if b then x else f q) (ne_eqb q p other)

-- a changed function is the same where the new value is the old one
pub updated_same : {X : Type 0} (f : ℕ → X) (p : ℕ) → updated f p (f p) ≡ f
updated_same f p = fun_ext (λ q. elim (cases_eq q p) [
  | inl same ↦ subst (λ q. updated f p (f p) q ≡ f q) (sym same) (updated_here f p (f p))
  | inr other ↦ updated_there f p q (f p) other
])

-- what holds of the new value, and of the others at other numbers, holds at all
pub each_updated : {X : Type 0} (P : ℕ → X → Type 0) (f : ℕ → X) (p : ℕ) (x : X) → P p x → ((q : ℕ) → q ≢ p → P q (f q)) → (q : ℕ) → P q (updated f p x q)
each_updated P f p x here there q = elim (cases_eq q p) [
  | inl same ↦ subst (λ n. P n (updated f p x n)) (sym same) (subst (P p) (sym (updated_here f p x)) here)
  | inr other ↦ subst (P q) (sym (updated_there f p q x other)) (there q other)
]

-- one more slot is among them, and the others are as before
pub in_last : (s : ℕ) (slots : List ℕ) → is_in s (slots ++ s ∷ []) ≡ true
in_last s slots = list_any-append (λ t. t == s) slots (s ∷ []) ∙ (rw (eq-eqb s s refl) (grind arith))

pub in_other : (s t : ℕ) (slots : List ℕ) → s ≢ t → is_in s (slots ++ t ∷ []) ≡ is_in s slots
in_other s t slots other = list_any-append (λ u. u == s) slots (t ∷ []) ∙ (rw (ne_eqb t s (λ e. other (sym e))) (grind arith))

-- a slot that isn't among them differs from each of them
pub in_at : (s : ℕ) (slots : List ℕ) (i : ℕ) → slice_get slots i ≡ Some s → is_in s slots ≡ true
in_at s slots i at = list_any_at (λ t. t == s) slots i 0 (slice_get_within slots i s at) (rw (get_or_from_slice_get slots i s 0 at) (eq-eqb s s refl))

-- a list of different slots, and one more that isn't among them
pub once_more : (s : ℕ) (slots : List ℕ) → AllPairs (λ t u. t ≢ u) slots → is_in s slots ≡ false → AllPairs (λ t u. t ≢ u) (slots ++ s ∷ [])
once_more s slots once missing = differ_push slots s once (λ i within e. absurd (false≢true (sym missing ∙ list_any_at (λ t. t == s) slots i 0 within (eq-eqb (get_or slots i 0) s e))))

-- a slot stands once in an ascending list
pub same_index : (xs : List ℕ) (i j s : ℕ) → Rises xs → slice_get xs i ≡ Some s → slice_get xs j ≡ Some s → i ≡ j
same_index xs i j s up at_i at_j = elim (cases_order i j) [
  | inl same ↦ same
  | inr h ↦ elim h [
    | inl less ↦ let wrong : s < s = up i j s s less at_i at_j in absurd (omega arith)
    | inr more ↦ let wrong : s < s = up j i s s more at_j at_i in absurd (omega arith)
  ]
]

pub to_map : {X Y : Type 0} (f : X → Y) (xs : List X) (i : ℕ) (x : X) → slice_get xs i ≡ Some x → slice_get (map f xs) i ≡ Some (f x)
to_map f xs i x is = slice_get-map f xs i ∙ ap (option_map f) is

-- what a test found
pub any_at : {X : Type 0} (f : X → Bool) (xs : List X) → list_any f xs ≡ true → (i : ℕ) × (x : X) × (slice_get xs i ≡ Some x) × (f x ≡ true)
any_at f [] found = absurd (false≢true found)
any_at f (x ∷ xs) found = elim (or_cases (f x) (list_any f xs) found) [
  | inl here ↦ (0, x, refl, here)
  | inr later ↦ let rest = any_at f xs later in (suc rest.0, rest.1, rest.2, rest.3)
]

-- each of a list with one more
pub each_more : {X : Type 0} (P : X → Type 0) (xs : List X) (y : X) → Each P xs → P y → Each P (xs ++ y ∷ [])
each_more P [] y all new zero x at = let e : y ≡ x = cc in subst P e new
each_more P [] y all new (suc i) x at = cc
each_more P (z ∷ zs) y all new zero x at = all zero x at
each_more P (z ∷ zs) y all new (suc i) x at = each_more P zs y (λ k w here. all (suc k) w here) new i x at
