-- Tables that keep their numbers while more are made.
use Rattle.std.proofs.Common.{◌≡◌, ◌∙◌, ℕ, ◌<◌, ◌≤◌, inl, inr, List, [], ◌∷◌, ◌++◌, length, sym, ap, arith}
use Rattle.std.proofs.lemmas.Option.{slice_get-get_or, slice_get_within, get_or_from_slice_get}
use Rattle.std.proofs.lemmas.List.{length_push, get_or_append_left, get_or_push}
use Rattle.std.specs.Prelude.{Some, slice_get}
use Rattle.func_table.specs.{declared.table.Table.Table, Shelf.IsNumbered}
use Rattle.node_map.specs.code.Tables.{Keeps, AddsOnly}

pub get_front : {X : Type 0} (xs : List X) (y x : X) (i : ℕ) → slice_get xs i ≡ Some x → slice_get (xs ++ y ∷ []) i ≡ Some x
get_front xs y x i at =
    let within : i < length xs = slice_get_within xs i x at in
    slice_get-get_or (xs ++ y ∷ []) i x (omega (arith, length_push xs y, within)) ∙ ap Some (get_or_append_left xs (y ∷ []) x i within ∙ get_or_from_slice_get xs i x x at)

pub get_last : {X : Type 0} (xs : List X) (y x : X) (i : ℕ) → length xs ≤ i → slice_get (xs ++ y ∷ []) i ≡ Some x → (i ≡ length xs) × (x ≡ y)
get_last xs y x i past at =
    let within : i < length (xs ++ y ∷ []) = slice_get_within (xs ++ y ∷ []) i x at in
    let here : i ≡ length xs = omega (arith, within, past, length_push xs y) in
    (here, sym (get_or_from_slice_get (xs ++ y ∷ []) i x y at) ∙ get_or_push xs y y i (sym here))

module _ (table : Table) (old new : List Table) (number : ℕ) (is : IsNumbered table old new number) where
  pub numbered_keeps : Keeps old new
  numbered_keeps n t at = elim is [
    | inl there ↦ rw there.1 at
    | inr added ↦ rw added.2 (get_front old table t n at)
  ]

  pub numbered_adds : AddsOnly old new number
  numbered_adds t past within = elim is [
    | inl there ↦ absurd (none there.1)
    | inr added ↦ omega (arith, added.1, ap length added.2, length_push old table, past, within)
  ] where
    none : new ≡ old → ⊥
    none same = omega (arith, ap length same, past, within)
