-- One more line.
use Rattle.std.proofs.Common.{◌≡◌, ◌∙◌, sym, ap, ℕ, ◌+◌, ◌<◌, ◌≤◌, List, [], ◌∷◌, ◌++◌, length, take, get_or, arith}
use Rattle.std.proofs.lemmas.{List.map_more, List.take_all, Slice.Zip.get_or-zip, Slice.Zip.length-zip}
use Rattle.std.specs.{Prelude.map, List.zip}

module _ {A B C : Type 0} (f : A × B → C) (xs : List A) (ys : List B) (k : ℕ) (count : length ys ≡ length xs) where
  pub one_more : (x : A) (y : B) → k < length ys → map f (take k (zip xs ys)) ++ f (get_or xs k x, get_or ys k y) ∷ [] ≡ map f (take (k + 1) (zip xs ys))
  one_more x y within =
      ap (λ p. map f (take k (zip xs ys)) ++ f p ∷ []) (sym (get_or-zip xs ys k (x, y) (omega (arith, within, count)) within))
      ∙ sym (map_more f (zip xs ys) k (x, y) (omega (arith, within, count, length-zip xs ys)))

  pub all_made : length ys ≤ k → map f (take k (zip xs ys)) ≡ map f (zip xs ys)
  all_made all = ap (map f) (take_all k (zip xs ys) (omega (arith, all, length-zip xs ys)))
