-- The first fault of several places.
use Rattle.std.proofs.Common.{◌≡◌, ℕ, zero, suc, ◌<◌, ◌⊎◌, Option, Some, None, sym, ap, ◌∙◌, subst, refl, inl, inr, arith}
use Rattle.std.proofs.lemmas.Bool.{cases_lt}
use Rattle.std.specs.Option.{option_or}
use Rattle.text_lines.specs.Answers.{first}

pub none_is_not_some : {A : Type 0} {x : A} → None ≡ Some x → ⊥
none_is_not_some e = cc

pub first-zero : {E : Type 0} (fault : ℕ → Option E) → first fault 0 ≡ None
unfolding first
first-zero fault = refl

pub first-suc : {E : Type 0} (fault : ℕ → Option E) (n : ℕ) → first fault (suc n) ≡ option_or (first fault n) (fault n)
unfolding first
first-suc fault n = refl

-- one more place without a fault
pub first_none_more : {E : Type 0} (fault : ℕ → Option E) (n : ℕ) → first fault n ≡ None → fault n ≡ None → first fault (suc n) ≡ None
first_none_more fault n before here = first-suc fault n ∙ ap (λ e. option_or e (fault n)) before ∙ here

-- where no place has a fault there is no first one
pub first_none : {E : Type 0} (fault : ℕ → Option E) (n : ℕ) → ((i : ℕ) → i < n → fault i ≡ None) → first fault n ≡ None
first_none fault zero none = first-zero fault
first_none fault (suc n) none = first_none_more fault n (first_none fault n (λ i h. none i (omega arith))) (none n (omega arith))

pub or_none : {E : Type 0} (a b : Option E) → option_or a b ≡ None → (a ≡ None) × (b ≡ None)
or_none None b e = (refl, e)
or_none (Some x) b e = cc

pub or_some : {E : Type 0} (a b : Option E) (x : E) → option_or a b ≡ Some x → (a ≡ Some x) ⊎ ((a ≡ None) × (b ≡ Some x))
or_some None b x e = inr (refl, e)
or_some (Some y) b x e = inl e

-- where there is no first fault no place has one
pub none_below : {E : Type 0} (fault : ℕ → Option E) (n : ℕ) → first fault n ≡ None → (i : ℕ) → i < n → fault i ≡ None
none_below fault zero none i h = absurd (omega arith)
none_below fault (suc n) none i h =
    let both = or_none (first fault n) (fault n) (sym (first-suc fault n) ∙ none) in
    elim (last_or_below i n h) [
      | inl below ↦ none_below fault n both.0 i below
      | inr last ↦ subst (λ k. fault k ≡ None) (sym last) both.1
    ]
  where
    last_or_below : (i n : ℕ) → i < suc n → (i < n) ⊎ (i ≡ n)
    last_or_below i n h = grind arith

-- the first place with a fault gives it, however many places follow
pub first_some : {E : Type 0} (fault : ℕ → Option E) (i n : ℕ) (e : E) → i < n → first fault i ≡ None → fault i ≡ Some e → first fault n ≡ Some e
first_some fault i zero e h before here = absurd (omega arith)
first_some fault i (suc n) e h before here =
    elim (cases_lt i n) [
      | inl below ↦ first-suc fault n ∙ ap (λ a. option_or a (fault n)) (first_some fault i n e below before here)
      | inr last ↦
          let same : i ≡ n = omega arith in
          first-suc fault n ∙ ap (λ a. option_or a (fault n)) (subst (λ k. first fault k ≡ None) same before) ∙ subst (λ k. fault k ≡ Some e) same here
    ]

-- the first fault stands at a place, and none stands before it
pub place_of_first : {E : Type 0} (fault : ℕ → Option E) (n : ℕ) (e : E) → first fault n ≡ Some e → (i : ℕ) × (i < n) × (first fault i ≡ None) × (fault i ≡ Some e)
place_of_first fault zero e some = cc (first-zero fault)
place_of_first fault (suc n) e some =
    elim (or_some (first fault n) (fault n) e (sym (first-suc fault n) ∙ some)) [
      | inl before ↦
          let found = place_of_first fault n e before in
          (found.0, omega (arith, found.1), found.2, found.3)
      | inr here ↦ (n, omega arith, here.0, here.1)
    ]
