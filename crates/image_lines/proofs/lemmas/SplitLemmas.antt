-- A text cut at its first byte of a kind.
use Rattle.std.proofs.Common.{◌≡◌, ℕ, ◌+◌, ◌<◌, ◌≤◌, false, ◌==◌, List, [], ◌∷◌, length, take, drop, Option, Some, None, ap, ◌∙◌, inl, inr, arith, ltb}
use Rattle.std.proofs.lemmas.Bool.{cases_lt, cond-true, cond-false, lt-ltb, le-ltb}
use Rattle.std.proofs.lemmas.List.{Elements.All-from_get_or, Sums.fails_before_first, Splits.slice_split_first, Splits.slice_split_none}
use Rattle.std.specs.List.{position_or_len, slice_split, before_first, after_first}
use Rattle.std.specs.Option.{option_map}
use Rattle.text_lines.specs.Bytes.{cut_at}

cut_here : (byte : ℕ) (text : List ℕ) → position_or_len (λ b. b == byte) text < length text
    → cut_at byte text ≡ Some (before_first (λ b. b == byte) text, after_first (λ b. b == byte) text)
cut_here byte text within =
    ap (option_map (λ i. (take i text, drop (i + 1) text)))
    (cond-true (ltb (position_or_len (λ b. b == byte) text) (length text)) (Some (position_or_len (λ b. b == byte) text)) None (lt-ltb _ _ within))

cut_nowhere : (byte : ℕ) (text : List ℕ) → length text ≤ position_or_len (λ b. b == byte) text → cut_at byte text ≡ None
cut_nowhere byte text past =
    ap (option_map (λ i. (take i text, drop (i + 1) text)))
    (cond-false (ltb (position_or_len (λ b. b == byte) text) (length text)) (Some (position_or_len (λ b. b == byte) text)) None (le-ltb _ _ past))

same_parts : (a b c d : List ℕ) → ◌≡◌ {A = Option (List ℕ × List ℕ)} (Some (a, b)) (Some (c, d)) → (a ≡ c) × (b ≡ d)
same_parts a b c d e =
    let pair : ◌≡◌ {A = List ℕ × List ℕ} (a, b) (c, d) = cc in
    (ap (λ p. p.0) pair, ap (λ p. p.1) pair)

-- where it is cut, the first piece ends
pub cut_some : (byte : ℕ) (text first rest : List ℕ) → Some (first, rest) ≡ cut_at byte text
    → slice_split (λ b. b == byte) text ≡ first ∷ slice_split (λ b. b == byte) rest
cut_some byte text first rest e =
    elim (cases_lt (position_or_len (λ b. b == byte) text) (length text)) [
      | inl within ↦
          let same = same_parts first rest (before_first (λ b. b == byte) text) (after_first (λ b. b == byte) text) (e ∙ cut_here byte text within) in
          rw (same.0, same.1) (slice_split_first (λ b. b == byte) text 0 within)
      | inr past ↦ absurd (is_none first rest (e ∙ cut_nowhere byte text past))
    ]
  where
    is_none : (a b : List ℕ) → ◌≡◌ {A = Option (List ℕ × List ℕ)} (Some (a, b)) None → ⊥
    is_none a b e = cc

-- where it is not, it is one piece
pub cut_none : (byte : ℕ) (text : List ℕ) → None ≡ cut_at byte text → slice_split (λ b. b == byte) text ≡ text ∷ []
cut_none byte text e =
    elim (cases_lt (position_or_len (λ b. b == byte) text) (length text)) [
      | inl within ↦ absurd (is_none _ _ (e ∙ cut_here byte text within))
      | inr past ↦ slice_split_none (λ b. b == byte) text (All-from_get_or (λ x. (x == byte) ≡ false) text 0 (λ i h. fails_before_first (λ b. b == byte) text i 0 (omega arith)))
    ]
  where
    is_none : (a b : List ℕ) → ◌≡◌ {A = Option (List ℕ × List ℕ)} None (Some (a, b)) → ⊥
    is_none a b e = cc
