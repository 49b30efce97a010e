-- The least number that is free, and the numbers that have a property, where it is known of each.
use Rattle.std.proofs.Common.{◌⊎◌, inl, inr, ℕ, zero, suc, ◌<◌, List, [], ◌∷◌, ◌++◌, subst}
use Rattle.std.proofs.Math.Numerals.{add-one}
use Rattle.list_laws.proofs.Decidable.{IsDecidable, first_or_all}
use Rattle.plan_defs.specs.{Lists.IsLeastFree, code.Lists.ListsBelow}
use Rattle.plan_defs.proofs.ListLemmas.{listed_none, listed_more, listed_not}

-- the least number below the end that is not ruled out, or all are
pub least_or_all : (P : ℕ → Type 0) → ((k : ℕ) → IsDecidable (P k)) → (n : ℕ) → ((a : ℕ) × (a < n) × IsLeastFree P a) ⊎ ((k : ℕ) → k < n → P k)
least_or_all P each n = told (first_or_all P (λ k. P k → ⊥) each n) where
  told : ((a : ℕ) × (a < n) × (P a → ⊥) × ((m : ℕ) → m < a → P m)) ⊎ ((k : ℕ) → k < n → P k) → ((a : ℕ) × (a < n) × IsLeastFree P a) ⊎ ((k : ℕ) → k < n → P k)
  told (inl found) = inl (found.0, found.1, record { free = found.2; below = found.3 })
  told (inr all) = inr all

-- the numbers below the end that have the property
pub listed_to : (P : ℕ → Type 0) → ((k : ℕ) → IsDecidable (P k)) → (n : ℕ) → (xs : List ℕ) × ListsBelow P n xs
listed_to P each zero = ([], listed_none P)
listed_to P each (suc n) = next (listed_to P each n) (each n) where
  next : (xs : List ℕ) × ListsBelow P n xs → IsDecidable (P n) → (xs : List ℕ) × ListsBelow P (suc n) xs
  next (xs, listed) (inl is) = (xs ++ n ∷ [], subst (λ k. ListsBelow P k (xs ++ n ∷ [])) (add-one n) (listed_more P n xs listed is))
  next (xs, listed) (inr never) = (xs, subst (λ k. ListsBelow P k xs) (add-one n) (listed_not P n xs listed never))
