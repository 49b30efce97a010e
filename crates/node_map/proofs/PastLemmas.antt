-- The least ranks of what takes the wires of a gate.
use Rattle.std.proofs.Common.{◌≡◌, ◌∙◌, ℕ, zero, suc, ◌+◌, ◌<◌, ◌≤◌, max, List, [], ◌∷◌, ◌++◌, length, map, take, get_or, inl, inr, refl, sym, ap, arith}
use Rattle.std.proofs.lemmas.List.{take_all, map_more, length_push, get_or_push, get_or_append_left, get_or_past}
use Rattle.std.proofs.lemmas.Bool.{cases_lt}
use Rattle.node_defs.specs.Groups.{group_at}
use Rattle.node_map.specs.code.Wires.{most_of, pasts_to}

-- a list that is made of the members of another, one after another
pub map_taken : {Y : Type 0} (f : ℕ → Y) (xs : List ℕ) (i : ℕ) (now : List Y) (y : Y) → i < length xs → now ≡ map f (take i xs) → y ≡ f (get_or xs i 0) → now ++ y ∷ [] ≡ map f (take (i + 1) xs)
map_taken {Y} f xs i now y within so_far is =
    ap (λ (ys : List Y). ys ++ y ∷ []) so_far
    ∙ (ap (λ (z : Y). map f (take i xs) ++ z ∷ []) is ∙ sym (map_more f xs i 0 within))

pub map_whole : {Y : Type 0} (f : ℕ → Y) (xs : List ℕ) (i : ℕ) (now : List Y) → length xs ≤ i → now ≡ map f (take i xs) → now ≡ map f xs
map_whole f xs i now all so_far = so_far ∙ ap (map f) (take_all i xs all)

-- the wire that a place adds
pub added : ℕ → List ℕ → ℕ → ℕ
added n operands place = most_of (pasts_to n operands place) (group_at n place).first (group_at n place).size + 1

pub pasts_more : (n : ℕ) (operands : List ℕ) (k : ℕ) → pasts_to n operands (suc k) ≡ pasts_to n operands k ++ added n operands k ∷ []
unfolding added
pasts_more n operands k = refl

pub added_is : (n : ℕ) (operands : List ℕ) (k : ℕ) → added n operands k ≡ most_of (pasts_to n operands k) (group_at n k).first (group_at n k).size + 1
unfolding added
added_is n operands k = refl

pub pasts_length : (n : ℕ) (operands : List ℕ) (k : ℕ) → length (pasts_to n operands k) ≡ length operands + k
pasts_length n operands zero = omega arith
pasts_length n operands (suc k) =
    let grown : length (pasts_to n operands (suc k)) ≡ length (pasts_to n operands k) + 1 = rw (pasts_more n operands k) (length_push (pasts_to n operands k) (added n operands k)) in
    omega (arith, grown, pasts_length n operands k)

-- a wire keeps its number
pub pasts_before : (n : ℕ) (operands : List ℕ) (j k w : ℕ) → j ≤ k → w < length operands + j → get_or (pasts_to n operands k) w 0 ≡ get_or (pasts_to n operands j) w 0
pasts_before n operands j zero w order within =
    let same : j ≡ 0 = omega arith in
    rw same refl
pasts_before n operands j (suc k) w order within = elim (cases_lt k j) [
  | inl h ↦
      let same : j ≡ suc k = omega arith in
      rw same refl
  | inr h ↦
      rw (pasts_more n operands k)
      (get_or_append_left (pasts_to n operands k) (added n operands k ∷ []) 0 w (omega (arith, pasts_length n operands k, within, h)) ∙ pasts_before n operands j k w h within)
]

pub past_operand : (n : ℕ) (operands : List ℕ) (k w : ℕ) → w < length operands → get_or (pasts_to n operands k) w 0 ≡ get_or operands w 0
past_operand n operands k w within = pasts_before n operands 0 k w (omega arith) (omega arith)

pub past_helper : (n : ℕ) (operands : List ℕ) (k place : ℕ) → place < k → get_or (pasts_to n operands k) (length operands + place) 0 ≡ added n operands place
past_helper n operands k place within =
    pasts_before n operands (suc place) k (length operands + place) (omega arith) (omega arith)
    ∙ rw (pasts_more n operands place) (get_or_push (pasts_to n operands place) (added n operands place) 0 (length operands + place) (pasts_length n operands place))

pub most_same : (xs ys : List ℕ) (first count : ℕ) → ((i : ℕ) → i < count → get_or xs (first + i) 0 ≡ get_or ys (first + i) 0) → most_of xs first count ≡ most_of ys first count
most_same xs ys first zero same = refl
most_same xs ys first (suc count) same =
    ap (λ m. max m (get_or xs (first + count) 0)) (most_same xs ys first count (λ i within. same i (omega arith)))
    ∙ ap (λ m. max (most_of ys first count) m) (same count (omega arith))

most_le : (xs : List ℕ) (first count bound : ℕ) → ((w : ℕ) → get_or xs w 0 ≤ bound) → most_of xs first count ≤ bound
most_le xs first zero bound low = omega arith
most_le xs first (suc count) bound low = omega (arith, most_le xs first count bound low, low (first + count))

pub pasts_le : (n : ℕ) (operands : List ℕ) (k bound : ℕ) → ((w : ℕ) → get_or operands w 0 ≤ bound) → (w : ℕ) → get_or (pasts_to n operands k) w 0 ≤ bound + k
pasts_le n operands zero bound low w = omega (arith, low w)
pasts_le n operands (suc k) bound low w =
    rw (pasts_more n operands k) (elim (cases_lt w (length (pasts_to n operands k))) [
      | inl h ↦ omega (arith, get_or_append_left (pasts_to n operands k) (added n operands k ∷ []) 0 w h, pasts_le n operands k bound low w)
      | inr h ↦ elim (cases_lt (length (pasts_to n operands k)) w) [
        | inl past ↦ omega (arith, get_or_past (pasts_to n operands k ++ added n operands k ∷ []) w 0 (omega (arith, length_push (pasts_to n operands k) (added n operands k), past)))
        | inr here ↦
            let at : length (pasts_to n operands k) ≡ w = omega (arith, h, here) in
            omega (arith, get_or_push (pasts_to n operands k) (added n operands k) 0 w at, added_is n operands k, most_le (pasts_to n operands k) (group_at n k).first (group_at n k).size (bound + k) (pasts_le n operands k bound low))
      ]
    ])

-- the greatest of the wires of a group so far
pub most_low : (n : ℕ) (operands : List ℕ) (k first count bound : ℕ) → ((w : ℕ) → get_or operands w 0 ≤ bound) → most_of (pasts_to n operands k) first count ≤ bound + k
most_low n operands k first count bound low = most_le (pasts_to n operands k) first count (bound + k) (pasts_le n operands k bound low)
