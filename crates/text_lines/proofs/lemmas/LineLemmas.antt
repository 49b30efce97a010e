-- The lines of a text, one after another.
use Rattle.std.proofs.Common.{◌≡◌, ℕ, ◌+◌, ◌<◌, ◌≤◌, List, [], ◌∷◌, length, map, take, drop, Some, None, sym, ap, ◌∙◌, ⊎_elim, refl, inl, inr, get_or, arith, take_all, ltb}
use Rattle.std.proofs.lemmas.{Bool.cases_lt, Bool.cond-true, Bool.lt-ltb, List.drop_all, List.drop_more}
use Rattle.std.specs.List.{enumerate_from, before_first, after_first, position_or_len}
use Rattle.std.specs.Option.{option_map}
use Rattle.text_lines.proofs.lemmas.AnswerLemmas.{none_is_not_some}
use Rattle.text_lines.specs.{Bytes.is_line_feed, Bytes.cut_at, Lines.lines_of, Lines.part_of, Lines.parts_of}

-- the first line stands before the first LF
pub lines_of_first : (text : List ℕ) → 0 < length text → lines_of text ≡ before_first is_line_feed text ∷ lines_of (after_first is_line_feed text)
lines_of_first [] some = absurd (omega arith)
lines_of_first (byte ∷ []) some = grind arith
lines_of_first (byte ∷ next ∷ text) some =
    let later = lines_of_first (next ∷ text) (omega arith) in
    grind arith

pub parts_of-nil : parts_of [] ≡ []
unfolding parts_of
parts_of-nil = refl

pub parts_of_first : (text line rest : List ℕ) → lines_of text ≡ line ∷ lines_of rest → parts_of text ≡ part_of line ∷ parts_of rest
unfolding parts_of
parts_of_first text line rest first = ap (map part_of) first

-- a text with no LF is one line
pub lines_of_one : (text : List ℕ) → 0 < length text → cut_at 10 text ≡ None → lines_of text ≡ text ∷ lines_of []
lines_of_one text some uncut =
    let place = position_or_len is_line_feed text in
    ⊎_elim
    (λ cut. absurd (none_is_not_some (sym uncut ∙ ap (option_map (λ i. (take i text, drop (i + 1) text))) (cond-true (ltb place (length text)) (Some place) None (lt-ltb place (length text) cut)))))
    (λ none. lines_of_first text some ∙ ap (λ line. line ∷ lines_of (after_first is_line_feed text)) (take_all place text none) ∙ ap (λ rest. text ∷ lines_of rest) (drop_all (place + 1) text (omega arith)))
    (cases_lt place (length text))

nil_is_not_cons : {A : Type 0} {x : A} {xs : List A} → [] ≡ x ∷ xs → ⊥
nil_is_not_cons e = cc

-- ---- a loop over the lines, of which k have passed

-- the next line has this number and this part, and then these lines are left
pub record IsNextLine (parts : List (List ℕ)) (k line : ℕ) (part : List ℕ) (left : List (ℕ × List ℕ)) : Type 0 where
  pub within : k < length parts
  pub number : line ≡ k + 1
  pub here : part ≡ get_or parts k []
  pub rest : left ≡ enumerate_from (k + 1 + 1) (drop (k + 1) parts)

pub next_line : (parts : List (List ℕ)) (k line : ℕ) (part : List ℕ) (left now : List (ℕ × List ℕ)) → now ≡ enumerate_from (k + 1) (drop k parts) → now ≡ (line, part) ∷ left → IsNextLine parts k line part left
next_line parts k line part left now is next =
    elim (cases_lt k (length parts)) [
      | inl within ↦
          let more = ap (enumerate_from (k + 1)) (drop_more parts k [] within) in
          let same : (line, part) ∷ left ≡ (k + 1, get_or parts k []) ∷ enumerate_from (k + 1 + 1) (drop (k + 1) parts) = sym next ∙ is ∙ more in
          let pair : ◌≡◌ {A = ℕ × List ℕ} (line, part) (k + 1, get_or parts k []) = cc in
          record { within = within; number = ap (λ p. p.0) pair; here = ap (λ p. p.1) pair; rest = cc }
      | inr past ↦ absurd (nil_is_not_cons (sym (is ∙ ap (enumerate_from (k + 1)) (drop_all k parts past)) ∙ next))
    ]

pub no_next_line : (parts : List (List ℕ)) (k : ℕ) (now : List (ℕ × List ℕ)) → now ≡ enumerate_from (k + 1) (drop k parts) → now ≡ [] → length parts ≤ k
no_next_line parts k now is none =
    elim (cases_lt k (length parts)) [
      | inl within ↦ absurd (nil_is_not_cons (sym none ∙ is ∙ ap (enumerate_from (k + 1)) (drop_more parts k [] within)))
      | inr past ↦ past
    ]
