-- Sums over ports, and slots that are missing.
use Rattle.std.proofs.Common.{Bool, List, Some, [], ap, arith, falls, false, if◌then◌else◌, inl, inr, length, refl, slice_get, subst, suc, sym, true, zero, ℕ, ◌*◌, ◌++◌, ◌+◌, ◌<◌, ◌∙◌, ◌∷◌, ◌≡◌, ◌≢◌}
use Rattle.std.proofs.lemmas.Bool.{cases_eq}
use Rattle.image_defs.proofs.lemmas.PlaceLemmas.{Rises}
use Rattle.image_defs.specs.Places.{Each}
use Rattle.event_defs.proofs.lemmas.SlotLemmas.{in_last, in_other}
use Rattle.event_defs.specs.{Counts.missing, Counts.sum_to, Places.is_in}

pub sum_same : (n : ℕ) (f g : ℕ → ℕ) → ((q : ℕ) → q < n → f q ≡ g q) → sum_to n f ≡ sum_to n g
unfolding sum_to
sum_same zero f g same = refl
sum_same (suc n) f g same = let a = sum_same n f g (λ q less. same q (omega arith)) in let b = same n (omega arith) in omega arith

-- a sum falls as its one changed term does
pub sum_falls : (n p d : ℕ) (f g : ℕ → ℕ) → p < n → ((q : ℕ) → q < n → q ≢ p → f q ≡ g q) → g p + d ≡ f p → sum_to n g + d ≡ sum_to n f
unfolding sum_to
sum_falls zero p d f g less same falls = absurd (omega arith)
sum_falls (suc n) p d f g less same falls = elim (cases_eq p n) [
  | inl here ↦
      let rest = sum_same n f g (λ q below. same q (omega arith) (λ e. omega arith)) in
      let falls_n : g n + d ≡ f n = subst (λ q. g q + d ≡ f q) here falls in
      omega arith
  | inr other ↦
      let rest = sum_falls n p d f g (omega arith) (λ q below. same q (omega arith)) falls in
      let last = same n (omega arith) (λ e. other (sym e)) in
      omega arith
]

pub sum_add : (n : ℕ) (f g : ℕ → ℕ) → sum_to n (λ q. f q + g q) ≡ sum_to n f + sum_to n g
unfolding sum_to
sum_add zero f g = refl
sum_add (suc n) f g = let a = sum_add n f g in omega arith

pub sum_times : (n k : ℕ) (f : ℕ → ℕ) → sum_to n (λ q. k * f q) ≡ k * sum_to n f
unfolding sum_to
sum_times zero k f = omega arith
sum_times (suc n) k f = let a = sum_times n k f in grind arith

pub sum_zero : (n : ℕ) (f : ℕ → ℕ) → ((q : ℕ) → q < n → f q ≡ 0) → sum_to n f ≡ 0
unfolding sum_to
sum_zero zero f none = refl
sum_zero (suc n) f none = let a = sum_zero n f (λ q less. none q (omega arith)) in let b = none n (omega arith) in omega arith

missing_other : (done slots : List ℕ) (s : ℕ) → ((i x : ℕ) → slice_get slots i ≡ Some x → x ≢ s) → missing (done ++ s ∷ []) slots ≡ missing done slots
unfolding missing
missing_other done [] s other = refl
missing_other done (x ∷ slots) s other =
    let rest = missing_other done slots s (λ i. other (suc i)) in
    let head = ap {A = Bool} {B = ℕ} (λ b. if b then 0 else 1) (in_other x s done (other 0 x refl)) in
    omega arith

-- one more is done
pub missing_falls : (done slots : List ℕ) (i s : ℕ) → Rises slots → slice_get slots i ≡ Some s → is_in s done ≡ false → missing (done ++ s ∷ []) slots + 1 ≡ missing done slots
unfolding missing
missing_falls done [] i s up at not_done = cc
missing_falls done (x ∷ slots) zero s up at not_done =
    let same : x ≡ s = cc in
    let rest = missing_other done slots s (λ i y at_y e. let less : x < y = up 0 (suc i) x y (omega arith) refl at_y in omega arith) in
    let was = ap {A = Bool} {B = ℕ} (λ b. if b then 0 else 1) (ap (λ n. is_in n done) same ∙ not_done) in
    let now = ap {A = Bool} {B = ℕ} (λ b. if b then 0 else 1) (ap (λ n. is_in n (done ++ s ∷ [])) same ∙ in_last s done) in
    omega arith
missing_falls done (x ∷ slots) (suc i) s up at not_done =
    let less : x < s = up 0 (suc i) x s (omega arith) refl at in
    let rest = missing_falls done slots i s (λ j k t u before at_j at_k. up (suc j) (suc k) t u (omega arith) at_j at_k) at not_done in
    let head = ap {A = Bool} {B = ℕ} (λ b. if b then 0 else 1) (in_other x s done (λ e. omega arith)) in
    omega arith

pub none_missing : (done slots : List ℕ) → Each (λ s. is_in s done ≡ true) slots → missing done slots ≡ 0
unfolding missing
none_missing done [] all = refl
none_missing done (x ∷ slots) all = let head = ap {A = Bool} {B = ℕ} (λ b. if b then 0 else 1) (all 0 x refl) in let rest = none_missing done slots (λ i. all (suc i)) in omega arith

pub all_missing : (slots : List ℕ) → missing [] slots ≡ length slots
unfolding missing
all_missing [] = refl
all_missing (x ∷ slots) = let rest = all_missing slots in omega arith
