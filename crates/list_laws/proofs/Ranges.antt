-- Numbers in a row.
use Rattle.std.proofs.Common.{◌≡◌, ◌⊎◌, ℕ, zero, suc, ◌≤◌, List, get_or, slice_get, Some, sym, ap, ◌∙◌, inl, inr, arith, ◌+◌, ◌<◌, replicate, [], ◌∷◌, ◌++◌, refl, subst}
use Rattle.std.proofs.lemmas.List.{get_or_past, get_or-replicate, length-replicate, map-id}
use Rattle.std.proofs.{lemmas.Bool.cases_lt, Math.Numerals.add-one, lemmas.List.FromFn.map-range_with_len_more, lemmas.List.Sums.sum_by_push}
use Rattle.std.specs.List.{range_with_len, sum_by}

-- a number up to another is below it, or is it
pub last_or : (i n : ℕ) → i < n + 1 → (i < n) ⊎ (i ≡ n)
last_or i n within = elim (cases_lt i n) [ inl h ↦ inl h | inr h ↦ inr (omega arith) ]

-- a list of one value alone has it at each place, and is read so past its end
pub replicate_read : {X : Type 0} (n i : ℕ) (x : X) → get_or (replicate n x) i x ≡ x
replicate_read {X} n i x = elim (cases_lt i n) [ inl h ↦ get_or-replicate n i x x h | inr h ↦ get_or_past (replicate n x) i x (omega (arith, length-replicate {A = X} n x)) ]

-- a member of a range
pub range_get : (a n k : ℕ) → k < n → slice_get (range_with_len a n) k ≡ Some (a + k)
range_get a zero k h = absurd (omega arith)
range_get a (suc n) zero h = let e : a ≡ a + 0 = omega arith in ap Some e
range_get a (suc n) (suc k) h = let e : a + 1 + k ≡ a + suc k = omega arith in range_get (a + 1) n k (omega arith) ∙ ap Some e

-- what stands at a place of a range
pub range_at : (a n k s : ℕ) → slice_get (range_with_len a n) k ≡ Some s → (s ≡ a + k) × (k < n)
range_at a zero k s e = cc
range_at a (suc n) zero s e = let same : a ≡ s = cc in (omega arith, omega arith)
range_at a (suc n) (suc k) s e = let found = range_at (a + 1) n k s e in (omega (arith, found.0), omega (arith, found.1))

-- a range begins with its first number
pub first_of_range : (a n : ℕ) (xs : List ℕ) → xs ≡ range_with_len a n → 1 ≤ n → a ≡ get_or xs 0 0
first_of_range a zero xs e some = absurd (omega arith)
first_of_range a (suc n) xs e some = sym (ap (λ ys. get_or ys 0 0) e)

-- a range of one number more
pub range_more : (a n : ℕ) → range_with_len a (n + 1) ≡ range_with_len a n ++ (a + n) ∷ []
range_more a n = simp map-id at (map-range_with_len_more (λ (k : ℕ). k) a n (a + n) refl)

-- the numbers below one more
pub range_next : (n : ℕ) → range_with_len 0 (n + 1) ≡ range_with_len 0 n ++ n ∷ []
range_next n = let first : 0 + n ≡ n = omega arith in range_more 0 n ∙ ap (λ k. range_with_len 0 n ++ k ∷ []) first

-- two ranges that follow one another
pub range_append : (a n m : ℕ) → range_with_len a (n + m) ≡ range_with_len a n ++ range_with_len (a + n) m
range_append a zero m = let e : zero + m ≡ m = omega arith in let f : a + zero ≡ a = omega arith in rw (e, f) refl
range_append a (suc n) m =
    let e : suc n + m ≡ suc (n + m) = omega arith in
    let f : a + suc n ≡ a + 1 + n = omega arith in
    rw (e, f) (ap (λ xs. a ∷ xs) (range_append (a + 1) n m))

-- a sum over the numbers below one more
pub sum_more : (f : ℕ → ℕ) (n : ℕ) → sum_by f (range_with_len 0 (n + 1)) ≡ sum_by f (range_with_len 0 n) + f n
sum_more f n = ap (sum_by f) (range_next n) ∙ sum_by_push f (range_with_len 0 n) n

-- sums of functions that agree on the numbers below n
pub sum_alike : (f g : ℕ → ℕ) (n : ℕ) → ((k : ℕ) → k < n → f k ≡ g k) → sum_by f (range_with_len 0 n) ≡ sum_by g (range_with_len 0 n)
sum_alike f g zero same = refl
sum_alike f g (suc n) same =
    let before = sum_alike f g n (λ k low. same k (omega (arith, low))) in
    let last = same n (omega arith) in
    subst (λ m. sum_by f (range_with_len 0 m) ≡ sum_by g (range_with_len 0 m)) (add-one n) (omega (arith, sum_more f n, sum_more g n, before, last))
