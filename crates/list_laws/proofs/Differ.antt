-- Lists of different numbers.
use Rattle.std.proofs.Common.{◌≢◌, ℕ, ◌<◌, List, [], ◌∷◌, ◌++◌, length, get_or, subst, arith}
use Rattle.std.proofs.lemmas.List.{get_or_append_left, get_or_default, length_push, Quantifiers.all_pairs_push}
use Rattle.std.specs.List.{AllPairs}

-- two different places of a list of different numbers
pub differ_at : (xs : List ℕ) (i j : ℕ) → AllPairs (λ s t. s ≢ t) xs → i < j → j < length xs → get_or xs i 0 ≢ get_or xs j 0
differ_at xs i j different before within = different i j 0 before within

-- one more number, which is none of them
pub differ_push : (xs : List ℕ) (y : ℕ) → AllPairs (λ s t. s ≢ t) xs → ((i : ℕ) → i < length xs → get_or xs i 0 ≢ y) → AllPairs (λ s t. s ≢ t) (xs ++ y ∷ [])
differ_push xs y different new =
    all_pairs_push (λ s t. s ≢ t) xs y different (λ k d within. subst (λ x. x ≢ y) (get_or_default xs k 0 d within) (new k within))

-- all but the last of different numbers
pub differ_front : (xs : List ℕ) (y : ℕ) → AllPairs (λ s t. s ≢ t) (xs ++ y ∷ []) → AllPairs (λ s t. s ≢ t) xs
differ_front xs y different i j d before within =
    let longer : j < length (xs ++ y ∷ []) = omega (arith, length_push xs y) in
    let i_within : i < length xs = omega arith in
    rw (← get_or_append_left xs (y ∷ []) d i i_within, ← get_or_append_left xs (y ∷ []) d j within) (different i j d before longer)
