-- The loop over the lines of a text.
use Rattle.std.proofs.Common.{◌≡◌, ℕ, suc, ◌+◌, ◌≤◌, List, [], ◌∷◌, ◌++◌, length, length-append, Some, None, Result, Ok, Err, refl, sym, ap, ◌∙◌, inr, arith}
use Rattle.std.proofs.lemmas.List.Splits.{length-slice_split, join_with_byte-slice_split}
use Rattle.std.specs.List.{join_with_byte}
use Rattle.text_lines.specs.{Answers.AnswersAs, Bytes.is_line_feed, Bytes.cut_at}
use Rattle.image_lines.specs.Forms.{line_read}
use Rattle.image_lines.proofs.lemmas.SplitLemmas.{cut_some, cut_none}
use Rattle.image_file.specs.Reading.{pieces_of, after_line, at_end, read_from}
use Rattle.image_file.specs.declared.{refusal.ImageNo.ImageNo, draft.Draft.Draft}

some_of : {X : Type 0} (xs : List X) → 1 ≤ length xs → (first : X) × ((rest : List X) × (xs ≡ first ∷ rest))
some_of [] long = absurd (omega (arith, long))
some_of (x ∷ xs) long = (x, (xs, refl))

-- a text has a piece
pub some_pieces : (text : List ℕ) → (first : List ℕ) × ((rest : List (List ℕ)) × (pieces_of text ≡ first ∷ rest))
some_pieces text = some_of (pieces_of text) (omega (arith, length-slice_split is_line_feed text))

-- a text that is cut, put together again
pub joined : (text first rest : List ℕ) → Some (first, rest) ≡ cut_at 10 text → text ≡ first ++ 10 ∷ rest
joined text first rest cut =
    let some = some_pieces rest in
    sym (join_with_byte-slice_split 10 text)
    ∙ ap (join_with_byte 10) (cut_some 10 text first rest cut ∙ ap (λ (ps : List (List ℕ)). first ∷ ps) some.1.1)
    ∙ ap (λ (bs : List ℕ). first ++ 10 ∷ bs) (ap (join_with_byte 10) (sym some.1.1) ∙ join_with_byte-slice_split 10 rest)

pub shorter : (text first rest : List ℕ) → Some (first, rest) ≡ cut_at 10 text → 1 + length rest ≤ length text
shorter text first rest cut = omega (arith, ap length (joined text first rest cut), length-append first (10 ∷ rest))

-- a line that is followed
pub passes : (n : ℕ) (draft after : Draft) (rest bytes behind : List ℕ) → pieces_of rest ≡ bytes ∷ pieces_of behind
    → after_line n draft (line_read bytes) ≡ Ok after → read_from (suc n) after (pieces_of behind) ≡ read_from n draft (pieces_of rest)
unfolding read_from
passes n draft after rest bytes behind pieces is =
    let some = some_pieces behind in
    rw (pieces, some.1.1, is) refl

pub goes_on : (n : ℕ) (draft after : Draft) (rest bytes behind : List ℕ) → Some (bytes, behind) ≡ cut_at 10 rest
    → after_line n draft (line_read bytes) ≡ Ok after → read_from (suc n) after (pieces_of behind) ≡ read_from n draft (pieces_of rest)
goes_on n draft after rest bytes behind cut = passes n draft after rest bytes behind (cut_some 10 rest bytes behind cut)

-- one that is refused
pub stops : (n : ℕ) (draft : Draft) (rest bytes behind : List ℕ) (why : ImageNo) → Some (bytes, behind) ≡ cut_at 10 rest
    → after_line n draft (line_read bytes) ≡ Err why → read_from n draft (pieces_of rest) ≡ Err why
unfolding read_from
stops n draft rest bytes behind why cut is =
    let some = some_pieces behind in
    rw (cut_some 10 rest bytes behind cut, some.1.1, is) refl

-- what follows the last LF
pub ends : (n : ℕ) (draft : Draft) (rest : List ℕ) → None ≡ cut_at 10 rest → read_from n draft (pieces_of rest) ≡ at_end n draft rest
unfolding read_from
ends n draft rest cut = rw (cut_none 10 rest cut) refl

-- what is answered is what is wanted
pub answered : {T E : Type 0} (memory : E) (result wanted : Result T E) → result ≡ wanted → AnswersAs memory result wanted
answered memory (Ok x) wanted is = sym is
answered memory (Err e) wanted is = inr (sym is)
