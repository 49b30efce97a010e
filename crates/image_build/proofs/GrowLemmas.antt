-- Lists of things that are made for items, one after another.
use Rattle.std.proofs.Common.{◌≡◌, inl, inr, ℕ, ◌+◌, ◌<◌, ◌≤◌, List, [], ◌∷◌, ◌++◌, length, take, get_or, Some, slice_get, sym, ap, ◌∙◌, subst, arith}
use Rattle.std.proofs.lemmas.{Bool.cases_lt, List.length_push, List.take_more, List.take_all, Option.slice_get_within}
use Rattle.list_laws.proofs.Places.{at_front, seam_at}
use Rattle.node_defs.specs.declared.items.{Item.Item, NodeNet.NodeNet}
use Rattle.image_build.specs.code.Layouts.{AreMadeFor}

-- a place of a list to which one more is added, that is not one of the old places
pub last_place : {X : Type 0} (xs : List X) (y : X) (i : ℕ) (x : X) → length xs ≤ i → slice_get (xs ++ y ∷ []) i ≡ Some x → (i ≡ length xs) × (x ≡ y)
last_place xs y i x past here =
    let low = slice_get_within (xs ++ y ∷ []) i x here in
    let at : i ≡ length xs = omega (arith, low, length_push xs y, past) in
    (at, cc (ap (slice_get (xs ++ y ∷ [])) at, seam_at xs y [], here))

-- one more number of a list
pub one_more : (xs : List ℕ) (k d : ℕ) → k < length xs → take (k + 1) xs ≡ take k xs ++ get_or xs k d ∷ []
one_more xs k d within = take_more xs k d within

module _ {T : Type 0} (nodes : NodeNet) where
  -- one more item
  pub made_more : (IsFor : ℕ → Item → T → Type 0) (items : List ℕ) (made : List T) (x : ℕ) (one : Item) (y : T) → AreMadeFor nodes IsFor items made → slice_get nodes.items x ≡ Some one → IsFor x one y
      → AreMadeFor nodes IsFor (items ++ x ∷ []) (made ++ y ∷ [])
  made_more IsFor items made x one y so_far there right = record {
    as_many = omega (arith, so_far.as_many, length_push items x, length_push made y);
    each = each;
  } where
    each : (i z : ℕ) (other : Item) (thing : T) → slice_get (items ++ x ∷ []) i ≡ Some z → slice_get nodes.items z ≡ Some other → slice_get (made ++ y ∷ []) i ≡ Some thing → IsFor z other thing
    each i z other thing here is at = elim (cases_lt i (length items)) [
      | inl inside ↦ so_far.each i z other thing (sym (at_front items (x ∷ []) i inside) ∙ here) is (sym (at_front made (y ∷ []) i (omega (arith, inside, so_far.as_many))) ∙ at)
      | inr past ↦
          let number = last_place items x i z past here in
          let same = last_place made y i thing (omega (arith, past, so_far.as_many)) at in
          let item : other ≡ one = cc (number.1, is, there) in
          rw (number.1, item, same.1) right
    ]

  -- what is right stays right
  pub made_kept : (IsFor IsNow : ℕ → Item → T → Type 0) (items : List ℕ) (made : List T) → ((x : ℕ) (one : Item) (thing : T) → IsFor x one thing → IsNow x one thing) → AreMadeFor nodes IsFor items made → AreMadeFor nodes IsNow items made
  made_kept IsFor IsNow items made keeps so_far = record {
    as_many = so_far.as_many;
    each = λ i x one thing here there at. keeps x one thing (so_far.each i x one thing here there at);
  }

  -- one more item of a list whose first items have been gone through
  pub made_next : (IsFor : ℕ → Item → T → Type 0) (items : List ℕ) (k d : ℕ) (made : List T) (one : Item) (y : T) → k < length items → AreMadeFor nodes IsFor (take k items) made → slice_get nodes.items (get_or items k d) ≡ Some one → IsFor (get_or items k d) one y
      → AreMadeFor nodes IsFor (take (k + 1) items) (made ++ y ∷ [])
  made_next IsFor items k d made one y within so_far there right =
      subst (λ xs. AreMadeFor nodes IsFor xs (made ++ y ∷ [])) (sym (take_more items k d within)) (made_more IsFor (take k items) made (get_or items k d) one y so_far there right)

  -- all items
  pub made_all : (IsFor : ℕ → Item → T → Type 0) (items : List ℕ) (k : ℕ) (made : List T) → k ≡ length items → AreMadeFor nodes IsFor (take k items) made → AreMadeFor nodes IsFor items made
  made_all IsFor items k made all so_far = subst (λ xs. AreMadeFor nodes IsFor xs made) (take_all k items (omega (arith, all))) so_far
