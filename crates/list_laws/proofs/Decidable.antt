-- What is decidable, and the first number that fails.
use Rattle.std.proofs.Common.{◌≡◌, ◌∙◌, ◌⊎◌, inl, inr, Bool, true, false, ℕ, zero, suc, ◌<◌, ◌≤◌, List, length, get_or, refl, sym, ap, subst, arith}
use Rattle.std.proofs.lemmas.{Bool.cases_eq, Bool.cases_lt, Option.slice_get_within, Option.none-some}
use Rattle.std.specs.Prelude.{Option, Some, None, slice_get}
use Rattle.std.specs.List.{Contains}
use Rattle.list_laws.proofs.{Options.one_some, Ranges.last_or}

-- it is so, or it is not
abbrev pub IsDecidable : Type 0 → Type 0
IsDecidable P = P ⊎ (P → ⊥)

pub decide_either : (P Q : Type 0) → IsDecidable P → IsDecidable Q → IsDecidable (P ⊎ Q)
decide_either P Q (inl is) other = inl (inl is)
decide_either P Q (inr never) (inl is) = inl (inr is)
decide_either P Q (inr never) (inr none) = inr neither where
  neither : P ⊎ Q → ⊥
  neither (inl is) = never is
  neither (inr is) = none is

pub decide_both : (P Q : Type 0) → IsDecidable P → IsDecidable Q → IsDecidable (P × Q)
decide_both P Q (inl is) (inl too) = inl (is, too)
decide_both P Q (inl is) (inr none) = inr (λ both. none both.1)
decide_both P Q (inr never) other = inr (λ both. never both.0)

-- one where the other is
pub decide_then : (P Q : Type 0) → IsDecidable P → IsDecidable Q → IsDecidable (P → Q)
decide_then P Q is (inl so) = inl (λ p. so)
decide_then P Q (inl is) (inr none) = inr (λ both. none (both is))
decide_then P Q (inr never) (inr none) = inl (λ p. absurd (never p))

-- it is not so
pub decide_not : (P : Type 0) → IsDecidable P → IsDecidable (P → ⊥)
decide_not P is = decide_then P ⊥ is (inr (λ none. none))

-- the same, told in other words
pub decide_same : (P Q : Type 0) → (P → Q) → (Q → P) → IsDecidable P → IsDecidable Q
decide_same P Q there back (inl is) = inl (there is)
decide_same P Q there back (inr never) = inr (λ is. never (back is))

pub decide_less : (m n : ℕ) → IsDecidable (m < n)
decide_less m n = elim (cases_lt m n) [ inl low ↦ inl low | inr up ↦ inr (λ low. omega (arith, low, up)) ]

pub decide_most : (m n : ℕ) → IsDecidable (m ≤ n)
decide_most m n = elim (cases_lt n m) [ inl past ↦ inr (λ up. omega (arith, past, up)) | inr up ↦ inl up ]

pub decide_bool : (b c : Bool) → IsDecidable (b ≡ c)
decide_bool true true = inl refl
decide_bool true false = inr (λ same. cc)
decide_bool false true = inr (λ same. cc)
decide_bool false false = inl refl

-- what `search` composes for a tree of these
pub ruleset decided = (decide_either, decide_both, decide_then, decide_not, decide_less, decide_most, decide_bool, cases_eq)

-- ---- searches

-- the first of the numbers below the end that fails, or all pass
pub first_or_all : (P Q : ℕ → Type 0) → ((k : ℕ) → P k ⊎ Q k) → (n : ℕ) → ((a : ℕ) × (a < n) × Q a × ((m : ℕ) → m < a → P m)) ⊎ ((k : ℕ) → k < n → P k)
first_or_all P Q each zero = inr (λ k low. absurd (omega (arith, low)))
first_or_all P Q each (suc n) = next (first_or_all P Q each n) (each n) where
  next : ((a : ℕ) × (a < n) × Q a × ((m : ℕ) → m < a → P m)) ⊎ ((k : ℕ) → k < n → P k) → P n ⊎ Q n
      → ((a : ℕ) × (a < suc n) × Q a × ((m : ℕ) → m < a → P m)) ⊎ ((k : ℕ) → k < suc n → P k)
  next (inl found) here = inl (found.0, omega (arith, found.1), found.2, found.3)
  next (inr all) (inr fails) = inl (n, omega arith, fails, all)
  next (inr all) (inl passes) = inr (λ k low. elim (last_or k n (omega (arith, low))) [ inl below ↦ all k below | inr same ↦ subst P (sym same) passes ])

-- whether one of the numbers below the end has the property
pub decide_below : (P : ℕ → Type 0) → ((k : ℕ) → IsDecidable (P k)) → (n : ℕ) → IsDecidable ((k : ℕ) × (k < n) × P k)
decide_below P each n = told (first_or_all (λ k. P k → ⊥) P (λ k. turned k (each k)) n) where
  turned : (k : ℕ) → IsDecidable (P k) → (P k → ⊥) ⊎ P k
  turned k (inl is) = inr is
  turned k (inr never) = inl never

  told : ((a : ℕ) × (a < n) × P a × ((m : ℕ) → m < a → P m → ⊥)) ⊎ ((k : ℕ) → k < n → P k → ⊥) → IsDecidable ((k : ℕ) × (k < n) × P k)
  told (inl found) = inl (found.0, found.1, found.2)
  told (inr none) = inr (λ some. none some.0 some.1 some.2)

-- whether all of the numbers below the end have the property
pub decide_all : (P : ℕ → Type 0) → ((k : ℕ) → IsDecidable (P k)) → (n : ℕ) → IsDecidable ((k : ℕ) → k < n → P k)
decide_all P each n = told (first_or_all P (λ k. P k → ⊥) each n) where
  told : ((a : ℕ) × (a < n) × (P a → ⊥) × ((m : ℕ) → m < a → P m)) ⊎ ((k : ℕ) → k < n → P k) → IsDecidable ((k : ℕ) → k < n → P k)
  told (inl found) = inr (λ all. found.2 (all found.0 found.1))
  told (inr all) = inl all

-- ---- options

-- whether it is something that has the property
pub decide_some : {X : Type 0} (P : X → Type 0) → ((x : X) → IsDecidable (P x)) → (o : Option X) → IsDecidable ((x : X) × (o ≡ Some x) × P x)
decide_some P each None = inr (λ some. none-some some.0 some.1)
decide_some {X} P each (Some x) =
    decide_same (P x) ((y : X) × (Some x ≡ Some y) × P y) (λ is. (x, refl, is)) (λ some. subst P (one_some some.0 x (sym some.1)) some.2) (each x)

-- whether what it is, if anything, has the property
pub decide_any : {X : Type 0} (P : X → Type 0) → ((x : X) → IsDecidable (P x)) → (o : Option X) → IsDecidable ((x : X) → o ≡ Some x → P x)
decide_any P each None = inl (λ x is. absurd (none-some x is))
decide_any {X} P each (Some x) = decide_same (P x) ((y : X) → Some x ≡ Some y → P y) (λ is y same. subst P (one_some x y same) is) (λ all. all x refl) (each x)

-- whether it is this
pub decide_is : {X : Type 0} → ((x y : X) → IsDecidable (x ≡ y)) → (o : Option X) (x : X) → IsDecidable (o ≡ Some x)
decide_is {X} each o x =
    decide_same ((y : X) × (o ≡ Some y) × (y ≡ x)) (o ≡ Some x) (λ some. some.1 ∙ ap Some some.2) (λ is. (x, is, refl)) (decide_some (λ y. y ≡ x) (λ y. each y x) o)

-- ---- lists

pub decide_contained : (xs : List ℕ) (x : ℕ) → IsDecidable (Contains xs x)
decide_contained xs x = decide_below (λ k. get_or xs k x ≡ x) (λ k. cases_eq (get_or xs k x) x) (length xs)

-- whether a member of the list has the property, which may speak of its place
pub decide_member : {X : Type 0} (P : ℕ → X → Type 0) → ((k : ℕ) (x : X) → IsDecidable (P k x)) → (xs : List X) → IsDecidable ((k : ℕ) × (x : X) × (slice_get xs k ≡ Some x) × P k x)
decide_member {X} P each xs =
    decide_same ((k : ℕ) × (k < length xs) × ((x : X) × (slice_get xs k ≡ Some x) × P k x)) ((k : ℕ) × (x : X) × (slice_get xs k ≡ Some x) × P k x)
    (λ some. (some.0, some.2.0, some.2.1, some.2.2)) (λ some. (some.0, slice_get_within xs some.0 some.1 some.2, (some.1, some.2, some.3)))
    (decide_below (λ k. (x : X) × (slice_get xs k ≡ Some x) × P k x) (λ k. decide_some (P k) (each k) (slice_get xs k)) (length xs))

-- whether all members of the list have the property, which may speak of their places
pub decide_each : {X : Type 0} (P : ℕ → X → Type 0) → ((k : ℕ) (x : X) → IsDecidable (P k x)) → (xs : List X) → IsDecidable ((k : ℕ) (x : X) → slice_get xs k ≡ Some x → P k x)
decide_each {X} P each xs =
    decide_same ((k : ℕ) → k < length xs → (x : X) → slice_get xs k ≡ Some x → P k x) ((k : ℕ) (x : X) → slice_get xs k ≡ Some x → P k x)
    (λ all k x is. all k (slice_get_within xs k x is) x is) (λ all k low. all k)
    (decide_all (λ k. (x : X) → slice_get xs k ≡ Some x → P k x) (λ k. decide_any (P k) (each k) (slice_get xs k)) (length xs))
