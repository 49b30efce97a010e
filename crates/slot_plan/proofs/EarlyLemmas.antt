-- The first slot that is not too early.
use Rattle.std.proofs.Common.{◌≡◌, ◌⊎◌, ◌↔◌, inl, inr, ℕ, ◌+◌, ◌<◌, List, get_or, refl, ap, arith}
use Rattle.slot_plan.specs.code.Early.{IsFrom, IsAnyLate}

pub from_one : (slots : List ℕ) (item : ℕ) → IsFrom (λ o. o ≡ item) slots (get_or slots item 0 + 1)
from_one slots item s = (λ low. (item, refl, omega (arith, low)), there) where
  there : IsAnyLate (λ o. o ≡ item) slots s → s < get_or slots item 0 + 1
  there (o, same, late) = let slot = ap (λ i. get_or slots i 0) same in omega (arith, late, slot)

pub from_none : (P : ℕ → Type 0) (slots : List ℕ) → ((o : ℕ) → P o → ⊥) → IsFrom P slots 0
from_none P slots none s = (λ low. absurd (omega (arith, low)), λ late. absurd (none late.0 late.1))

pub from_either : (P Q : ℕ → Type 0) (slots : List ℕ) (a b m : ℕ) → IsFrom P slots a → IsFrom Q slots b → ((s : ℕ) → (s < m) ↔ ((s < a) ⊎ (s < b))) → IsFrom (λ o. P o ⊎ Q o) slots m
from_either P Q slots a b m first second most s = (there, back) where
  there : s < m → IsAnyLate (λ o. P o ⊎ Q o) slots s
  there low = elim ((most s).0 low) [
    | inl below ↦ (let late = (first s).0 below in (late.0, inl late.1, late.2))
    | inr below ↦ (let late = (second s).0 below in (late.0, inr late.1, late.2))
  ]

  back : IsAnyLate (λ o. P o ⊎ Q o) slots s → s < m
  back (o, inl is, late) = (most s).1 (inl ((first s).1 (o, is, late)))
  back (o, inr is, late) = (most s).1 (inr ((second s).1 (o, is, late)))
