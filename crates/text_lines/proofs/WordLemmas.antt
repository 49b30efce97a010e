-- The words of a part, one after another.
use Rattle.std.proofs.Common.{◌≡◌, ℕ, ◌+◌, ◌<◌, ◌≤◌, Bool, false, List, [], ◌∷◌, length, Some, None, sym, ap, ◌∙◌, refl, ⊎_elim, arith, take_all, ltb}
use Rattle.std.proofs.lemmas.Bool.{cases_lt, cond-true, cond-false, lt-ltb, le-ltb}
use Rattle.std.proofs.lemmas.List.{length-take-le, drop_all, Elements.All-from_get_or, Sums.prefix_len-le-length, Sums.fails_before_first}
use Rattle.std.proofs.lemmas.List.Splits.{slice_split_first, slice_split_none}
use Rattle.std.specs.List.{before_first, after_first, position, position_or_len, slice_split}
use Rattle.std.specs.Prelude.{filter}
use Rattle.text_lines.specs.{Bytes.is_blank, Words.is_nonempty, Words.words_of}
use Rattle.text_lines.proofs.lemmas.AnswerLemmas.{none_is_not_some}

-- where no element passes, all of them stand before the first that does
pub before_first-none : {X : Type 0} (p : X → Bool) (xs : List X) → position p xs ≡ None → xs ≡ before_first p xs
before_first-none p xs none =
    let place = position_or_len p xs in
    ⊎_elim
    (λ within. absurd (none_is_not_some (sym none ∙ cond-true (ltb place (length xs)) (Some place) None (lt-ltb place (length xs) within))))
    (λ past. sym (take_all place xs past))
    (cases_lt place (length xs))

length-before_first : (p : ℕ → Bool) (xs : List ℕ) → length (before_first p xs) ≡ position_or_len p xs
length-before_first p xs = length-take-le (position_or_len p xs) xs (prefix_len-le-length _ xs)

-- where no element passes, the list is one piece
one_piece : (p : ℕ → Bool) (xs : List ℕ) → length xs ≤ position_or_len p xs → slice_split p xs ≡ before_first p xs ∷ []
one_piece p xs none =
    slice_split_none p xs (All-from_get_or (λ x. p x ≡ false) xs 0 (λ i h. fails_before_first p xs i 0 (omega arith)))
    ∙ ap (λ (x : List ℕ). x ∷ []) (sym (take_all (position_or_len p xs) xs none))

pub words_of-nil : words_of [] ≡ []
unfolding words_of
words_of-nil = refl

-- an empty first piece is no word
pub words_of_skip : (part : List ℕ) → 0 < length part → length (before_first is_blank part) ≡ 0 → words_of part ≡ words_of (after_first is_blank part)
unfolding words_of
words_of_skip part some none =
    let place : position_or_len is_blank part < length part = omega (arith, length-before_first is_blank part) in
    ap (filter is_nonempty) (slice_split_first is_blank part 0 place) ∙ cond-false _ _ _ (le-ltb 0 (length (before_first is_blank part)) (omega arith))

-- any other first piece is the first word
pub words_of_first : (part : List ℕ) → 0 < length (before_first is_blank part) → words_of part ≡ before_first is_blank part ∷ words_of (after_first is_blank part)
unfolding words_of
words_of_first part some =
    ⊎_elim
    (λ place. ap (filter is_nonempty) (slice_split_first is_blank part 0 place) ∙ cond-true _ _ _ (lt-ltb 0 (length (before_first is_blank part)) some))
    (λ none. ap (filter is_nonempty) (one_piece is_blank part none)
    ∙ cond-true _ _ _ (lt-ltb 0 (length (before_first is_blank part)) some)
    ∙ ap (λ rest. before_first is_blank part ∷ words_of rest) (sym (drop_all (position_or_len is_blank part + 1) part (omega arith))))
    (cases_lt (position_or_len is_blank part) (length part))
