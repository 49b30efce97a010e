-- Each list has a sorted order, by insertion.
use Rattle.std.proofs.Common.{◌≡◌, zero, suc, Bool, true, false, List, [], ◌∷◌, refl, arith, add-one}
use Rattle.std.proofs.lemmas.List.Sorted.{IsPermutation-refl, IsPermutation-cons, IsPermutation-trans, IsPermutation-middle, IsPermutation-sym}
use Rattle.std.specs.{List.Sorted.IsPermutation, List.Sorted.IsSortedBy, Cmp.IsStrictWeakOrder}

module _ {X : Type 0} (less : X → X → Bool) (order : IsStrictWeakOrder less) where
  -- no first element is less than this
  abbrev Heads : X → List X → Type 0
  Heads x [] = Unit {0}
  Heads x (y ∷ ys) = less y x ≡ false

  -- no element is less than the one before it
  abbrev Rises : List X → Type 0
  Rises [] = Unit {0}
  Rises (x ∷ xs) = Heads x xs × Rises xs

  -- one more element in its place
  record IsInserted (x : X) (xs new : List X) : Type 0 where
    moved : IsPermutation (x ∷ xs) new
    rises : Rises new
    heads : (y : X) → less x y ≡ false → Heads y xs → Heads y new

  inserted : (x : X) (xs : List X) → Rises xs → (new : List X) × IsInserted x xs new
  inserted x [] rises = (x ∷ [], record { moved = IsPermutation-refl (x ∷ []); rises = (tt, tt); heads = λ y least heads. least })
  inserted x (y ∷ ys) rises = by_test (less x y) refl (inserted x ys rises.1) where
    by_test : (b : Bool) → less x y ≡ b → ((rest : List X) × IsInserted x ys rest) → (new : List X) × IsInserted x (y ∷ ys) new
    by_test true is later = (
      x ∷ y ∷ ys,
      record { moved = IsPermutation-refl (x ∷ y ∷ ys); rises = (order.one_way x y is, rises); heads = λ z least heads. least },
    )
    by_test false is later = (
      y ∷ later.0,
      record {
        moved = IsPermutation-trans (x ∷ y ∷ ys) (y ∷ x ∷ ys) (y ∷ later.0) (IsPermutation-sym (y ∷ x ∷ ys) (x ∷ y ∷ ys) (IsPermutation-middle (y ∷ []) x ys)) (IsPermutation-cons y (x ∷ ys) later.0 later.1.moved);
        rises = (later.1.heads y is rises.0, later.1.rises);
        heads = λ z least heads. heads;
      },
    )

  arranged : (xs : List X) → (ys : List X) × IsPermutation xs ys × Rises ys
  arranged [] = ([], IsPermutation-refl [], tt)
  arranged (x ∷ xs) =
      let rest : _ = arranged xs in
      let new : _ = inserted x rest.0 rest.2 in
      (new.0, IsPermutation-trans (x ∷ xs) (x ∷ rest.0) new.0 (IsPermutation-cons x xs rest.0 rest.1) new.1.moved, new.1.rises)

  sorted_from_rises : (xs : List X) → Rises xs → IsSortedBy less xs
  sorted_from_rises [] rises k d low within = absurd (omega (arith, within))
  sorted_from_rises (x ∷ []) rises k d low within = absurd (omega (arith, within))
  sorted_from_rises (x ∷ y ∷ ys) rises zero d low within = rises.0
  sorted_from_rises (x ∷ y ∷ ys) rises (suc k) d low within =
      rw add-one (rw add-one at (sorted_from_rises (y ∷ ys) rises.1 k d (omega arith) (omega (arith, within))))

  pub sorted_list : (xs : List X) → (ys : List X) × IsPermutation xs ys × IsSortedBy less ys
  sorted_list xs =
      let all : _ = arranged xs in
      (all.0, all.1, sorted_from_rises all.0 all.2)
