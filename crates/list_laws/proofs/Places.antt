-- Items by their places: what stands where in lists, and what is left of them.
use Rattle.std.proofs.Common.{◌≡◌, ℕ, zero, suc, ◌≤◌, List, [], ◌∷◌, ◌++◌, length, take, get_or, slice_get, Some, None, sym, ap, ◌∙◌, subst, refl, arith, ◌+◌, ◌<◌, drop, All, slice_index, inl, inr}
use Rattle.std.proofs.lemmas.List.{drop_more, length-take-le, take-append-drop, get_or-take, get_or_append_left, get_or_push, get_or_default, take_at, get_or_past}
use Rattle.std.proofs.lemmas.List.Elements.{Contains-get_or, All-get_or}
use Rattle.std.proofs.lemmas.{Option.slice_get_within, Option.slice_get-get_or, Option.get_or_from_slice_get, Bool.cases_lt}
use Rattle.std.specs.List.{Contains}

-- the items but the last stay when one is added
pub read_before : (xs : List ℕ) (y i : ℕ) → i < length xs → get_or (xs ++ y ∷ []) i 0 ≡ get_or xs i 0
read_before xs y i within = get_or_append_left xs (y ∷ []) 0 i within

-- the item that is added is the last
pub read_last : (xs : List ℕ) (y i : ℕ) → i ≡ length xs → get_or (xs ++ y ∷ []) i 0 ≡ y
read_last xs y i at_end = get_or_push xs y 0 i (sym at_end)

-- what a list contains stands at a place of it
pub Contains-at : (xs : List ℕ) (i x : ℕ) → i < length xs → get_or xs i 0 ≡ x → Contains xs x
Contains-at xs i x within is = subst (Contains xs) is (Contains-get_or xs i 0 within)

-- a number of a list stands at a place of it
pub place_of : (xs : List ℕ) (x : ℕ) → Contains xs x → (i : ℕ) × (i < length xs) × (get_or xs i 0 ≡ x)
place_of xs x (i, within, is) = (i, within, get_or_default xs i 0 x within ∙ is)

-- what stands in the first so many numbers of a list
pub place_below : (xs : List ℕ) (k x : ℕ) → k ≤ length xs → Contains (take k xs) x → (j : ℕ) × (j < k) × (get_or xs j 0 ≡ x)
place_below xs k x short held =
    let at = place_of (take k xs) x held in
    let within : at.0 < k = omega (arith, at.1, length-take-le k xs short) in
    (at.0, within, sym (get_or-take k xs at.0 0 within) ∙ at.2)

-- all items but the one that was added
pub take_front : (xs : List ℕ) (y : ℕ) → take (length xs) (xs ++ y ∷ []) ≡ xs
take_front xs y = take_at xs (y ∷ []) (length xs) refl

-- the rest of a list from a member on
pub drop_here : {X : Type 0} (xs : List X) (s : ℕ) (x : X) → slice_get xs s ≡ Some x → drop s xs ≡ x ∷ drop (s + 1) xs
drop_here xs s x e = drop_more xs s x (slice_get_within xs s x e) ∙ ap (λ y. y ∷ drop (s + 1) xs) (get_or_from_slice_get xs s x x e)

-- at one place stands one member
pub one_there : {X : Type 0} (xs : List X) (s t : ℕ) (x y : X) → s ≡ t → slice_get xs s ≡ Some x → slice_get xs t ≡ Some y → x ≡ y
one_there xs s t x y same e f = cc (ap (slice_get xs) same)

-- what is read at a place of a list stands there
pub indexed : {X : Type 0} (xs ys : List X) (k : ℕ) (x : X) → xs ≡ ys → k < length xs → x ≡ get_or xs k x → slice_get ys k ≡ Some x
indexed xs ys k x same within is = sym (ap (λ zs. slice_get zs k) same) ∙ slice_get-get_or xs k x within ∙ ap Some (sym is)

-- before the end stands some member
pub within_some : {X : Type 0} (xs : List X) (i : ℕ) → i < length xs → slice_get xs i ≡ None → ⊥
within_some [] i h e = absurd (omega arith)
within_some (x ∷ xs) zero h e = cc
within_some (x ∷ xs) (suc i) h e = within_some xs i (omega arith) e

-- where no member stands the list has ended
pub past_end : {X : Type 0} (xs : List X) (s : ℕ) → slice_get xs s ≡ None → length xs ≤ s
past_end [] s e = omega arith
past_end (x ∷ xs) zero e = cc
past_end (x ∷ xs) (suc s) e = omega (arith, past_end xs s e)

-- the first item after a list
pub seam_at : {X : Type 0} (xs : List X) (x : X) (ys : List X) → slice_get (xs ++ x ∷ ys) (length xs) ≡ Some x
seam_at [] x ys = refl
seam_at (w ∷ xs) x ys = seam_at xs x ys

-- a member of the first of two lists
pub at_front : {X : Type 0} (xs ys : List X) (k : ℕ) → k < length xs → slice_get (xs ++ ys) k ≡ slice_get xs k
at_front [] ys k h = absurd (omega arith)
at_front (x ∷ xs) ys zero h = refl
at_front (x ∷ xs) ys (suc k) h = at_front xs ys k (omega arith)

-- what stands past the seam of two lists
pub slice_past : {X : Type 0} (xs ys : List X) (k : ℕ) → slice_get (xs ++ ys) (length xs + k) ≡ slice_get ys k
slice_past [] ys k = let n : 0 + k ≡ k = omega arith in rw n refl
slice_past (x ∷ xs) ys k = let n : suc (length xs) + k ≡ suc (length xs + k) = omega arith in rw n (slice_past xs ys k)

-- an item of the middle of three lists
pub inside_at : {X : Type 0} (xs ys zs : List X) (k : ℕ) (x : X) → slice_get ys k ≡ Some x → slice_get (xs ++ (ys ++ zs)) (length xs + k) ≡ Some x
inside_at [] ys zs k x e = let n : 0 + k ≡ k = omega arith in rw n (front_at ys zs k x e) where
  front_at : {X : Type 0} (ys zs : List X) (k : ℕ) (x : X) → slice_get ys k ≡ Some x → slice_get (ys ++ zs) k ≡ Some x
  front_at [] zs k x e = cc
  front_at (y ∷ ys) zs zero x e = e
  front_at (y ∷ ys) zs (suc k) x e = front_at ys zs k x e
inside_at (w ∷ xs) ys zs k x e = let n : suc (length xs) + k ≡ suc (length xs + k) = omega arith in rw n (inside_at xs ys zs k x e)

-- a list is what stands before a place, what stands at it, and what stands after it
pub split_at : {X : Type 0} (xs : List X) (i : ℕ) (d : X) → i < length xs → xs ≡ take i xs ++ get_or xs i d ∷ drop (i + 1) xs
split_at xs i d within = sym (take-append-drop i xs) ∙ ap (λ rest. take i xs ++ rest) (drop_more xs i d within)

-- where no number is above n none is that is read, within the list or past its end
pub read_below : (xs : List ℕ) (q n : ℕ) → All (λ x. x ≤ n) xs → slice_index xs q ≤ n
read_below xs q n small = elim (cases_lt q (length xs)) [
  | inl within ↦ All-get_or (λ x. x ≤ n) xs q 0 within small
  | inr past ↦ let none : slice_index xs q ≡ 0 = get_or_past xs q 0 past in omega (arith, none)
]
