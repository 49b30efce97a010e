-- Items that are sorted by their slots.
use Rattle.std.proofs.Common.{◌≡◌, ◌≢◌, ℕ, ◌<◌, eqb, List, [], ◌∷◌, length, map, get_or, refl, sym, ap, subst, arith}
use Rattle.std.proofs.lemmas.{Bool.Decides.Decides-eqb, Bool.Decides.nat_tests, List.Elements.All-map, List.Elements.All-from_get_or}
use Rattle.std.proofs.lemmas.List.FromFn.{length-range_with_len, get_or-range_with_len}
use Rattle.std.proofs.lemmas.{List.Sorted.IsPermutation-map, List.Sorted.All-permutation, List.Sorted.Contains-permutation, Map.Keys.IsDistinct-IsPermutation}
use Rattle.std.proofs.lemmas.Map.Made.{IsDistinct-from_AllPairs, AllPairs-from_IsDistinct}
use Rattle.std.specs.List.{All, AllPairs, Contains, range_with_len}
use Rattle.std.specs.List.Sorted.{IsNonDecreasingBy, IsPermutation}
use Rattle.switch_set.specs.{declared.order.Placed.Placed, Order.IsPlaced, Order.items_of, Order.IsSlotOrder, code.Order.placed_at}

-- the numbers of items in item order
items_same : (slots numbers : List ℕ) → items_of (map (placed_at slots) numbers) ≡ numbers
items_same slots [] = refl
items_same slots (i ∷ numbers) = ap (λ rest. i ∷ rest) (items_same slots numbers)

range_here : (n k d : ℕ) → k < length (range_with_len 0 n) → (get_or (range_with_len 0 n) k d ≡ k) × (k < n)
range_here n k d low =
    let within : k < n = omega (arith, low, length-range_with_len 0 n) in
    (omega (arith, get_or-range_with_len 0 n k d within), within)

all_placed : (slots : List ℕ) → All (IsPlaced slots) (map (placed_at slots) (range_with_len 0 (length slots)))
all_placed slots =
    All-map (IsPlaced slots) (placed_at slots) (range_with_len 0 (length slots))
    (All-from_get_or (λ i. IsPlaced slots (placed_at slots i)) (range_with_len 0 (length slots)) 0
    (λ k low. let here = range_here (length slots) k 0 low in subst (λ i. IsPlaced slots (placed_at slots i)) (sym here.0) (here.1, refl)))

range_once : (n : ℕ) → AllPairs (λ i j. i ≢ j) (range_with_len 0 n)
range_once n i j d before low same =
    let one = (range_here n i d (omega (arith, before, low))).0 in
    let other = (range_here n j d low).0 in
    omega (arith, before, one, other, same)

range_whole : (n i : ℕ) → i < n → Contains (range_with_len 0 n) i
range_whole n i within = (i, omega (arith, within, length-range_with_len 0 n), omega (arith, get_or-range_with_len 0 n i i within))

module _ (slots : List ℕ) (order : List Placed) (moved : IsPermutation (map (placed_at slots) (range_with_len 0 (length slots))) order) where
  items_moved : IsPermutation (range_with_len 0 (length slots)) (items_of order)
  items_moved =
      subst (λ numbers. IsPermutation numbers (items_of order)) (items_same slots (range_with_len 0 (length slots)))
      (IsPermutation-map (λ placed. placed.item) (map (placed_at slots) (range_with_len 0 (length slots))) order moved)

  items_once : AllPairs (λ i j. i ≢ j) (items_of order)
  items_once = AllPairs-from_IsDistinct Decides-eqb (items_of order)
      (IsDistinct-IsPermutation eqb (λ x y. grind (arith, nat_tests)) (range_with_len 0 (length slots)) (items_of order) items_moved
      (IsDistinct-from_AllPairs Decides-eqb (range_with_len 0 (length slots)) (range_once (length slots))))

  -- items in item order, once they are sorted by their slots, are in slot order
  pub sorted_items : IsNonDecreasingBy (λ placed. placed.slot) order → IsSlotOrder slots order
  sorted_items rising = record {
    rising = rising;
    placed = All-permutation (IsPlaced slots) (map (placed_at slots) (range_with_len 0 (length slots))) order moved (all_placed slots);
    whole = λ i within. Contains-permutation (range_with_len 0 (length slots)) (items_of order) i items_moved (range_whole (length slots) i within);
    once = items_once;
  }
