-- A binary search in an ascending list finds what the list has.
use Rattle.std.proofs.Common.{◌≡◌, ℕ, ◌<◌, ◌≤◌, false, List, length, get_or, sym, arith}
use Rattle.std.proofs.lemmas.List.{Sorted.searched, Elements.All-from_get_or, Folds.list_any_at, Folds.list_any_none}
use Rattle.std.specs.Prelude.{◌==◌, Result, Ok, Err, is_ok, MatchResult}
use Rattle.std.specs.{Ordering.nat_cmp, List.Sorted.IsBinarySearchResult}
use Rattle.net_defs.specs.{Steps.is_listed, Valid.Ascends}

module _ (listed : List ℕ) (gate : ℕ) where
  found_or_not : (found : Result ℕ ℕ) → MatchResult found (λ i. (i < length listed) × (get_or listed i 0 ≡ gate)) (λ i. (i ≤ length listed) × ((k : ℕ) → k < i → get_or listed k 0 < gate) × ((k : ℕ) → i ≤ k → k < length listed → gate < get_or listed k 0)) → is_ok found ≡ is_listed listed gate
  found_or_not (Ok i) here = sym (list_any_at (λ s. s == gate) listed i 0 here.0 (grind (arith, here.1)))
  found_or_not (Err i) around = sym (list_any_none (λ s. s == gate) listed (All-from_get_or (λ s. (s == gate) ≡ false) listed 0 (λ k within. grind (arith, around.1 k, around.2 k))))

  pub found_is_listed : (found : Result ℕ ℕ) → IsBinarySearchResult (λ y. nat_cmp y gate) listed found → Ascends listed → is_ok found ≡ is_listed listed gate
  found_is_listed found is ascends = found_or_not found (searched listed gate found is (λ i j before within. at_most i j before within)) where
    at_most : (i j : ℕ) → i ≤ j → j < length listed → get_or listed i 0 ≤ get_or listed j 0
    at_most i j before within = grind (arith, ascends i j)
