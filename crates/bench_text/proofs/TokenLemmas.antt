-- The marks and names of the rows of a text are its tokens.
use Rattle.std.proofs.Common.{◌||◌, ◌≡◌, ℕ, zero, suc, ◌+◌, ◌-◌, ◌<◌, ◌≤◌, Bool, true, false, cond, ◌&&◌, not, List, [], ◌∷◌, ◌++◌, length, map, take, drop, get_or, Option, Some, None, sym, refl, arith, append-nil, append_assoc, if◌then◌else◌}
use Rattle.std.proofs.lemmas.List.{map-append, drop_more, drop_all, Sums.take_while-cons}
use Rattle.std.specs.List.{take_while, flat_map, enumerate_from, onto_first}
use Rattle.std.specs.{Option.option_to_list, Str.Lines.strip_carriage_return}
use Rattle.text_lines.specs.{Bytes.is_line_feed, Bytes.is_hash, Names.is_name_byte, Lines.lines_of, Lines.part_of, Lines.parts_of}
use Rattle.text_lines.specs.Places.{stays_in_comment, line_at}
use Rattle.bench_text.specs.Tokens.{follows_name, name_length, tokens_before, tokens_of}
use Rattle.bench_text.specs.Rows.{Row, goes_on, onto_pieces, pieces_of, is_some, rows_in, rows_of, placed_pieces, piece_of}
use Rattle.bench_text.specs.{declared.class.Class.Class, declared.token.Mark.Mark, Bytes.sign_of, Bytes.class_of}
use Rattle.bench_text.specs.{code.Scans.follows_comment, code.Scans.scan_at, code.Scans.token_by, Spelling.Piece, Spelling.Sign, Spelling.Word}
use Rattle.bench_text.specs.declared.class.Class.TheVariants as class
use Rattle.bench_text.specs.declared.token.Mark.TheVariants as mark
use Rattle.bench_text.proofs.lemmas.ByteLemmas.{IsOfClass, class_is, named_byte}
use Rattle.bench_text.proofs.{PlaceLemmas.is_comment_step, PlaceLemmas.place_is, PartLemmas.no_name}

abbrev name_at : List ℕ → List ℕ
name_at bytes = take_while is_name_byte bytes

abbrev at : ℕ → List Piece → List (ℕ × Piece)
at line pieces = map (λ piece. (line, piece)) pieces

-- ---- what stands in the first line of a text

-- its marks and names, up to a comment or LF
abbrev line_pieces : List ℕ → List Piece
line_pieces [] = []
line_pieces (byte ∷ rest) = if is_hash byte || is_line_feed byte then [] else onto_pieces byte (sign_of byte) (goes_on rest) (line_pieces rest)

abbrev first_line : List ℕ → List ℕ
first_line text = get_or (lines_of text) 0 []

onto_is : (byte : ℕ) (lines : List (List ℕ)) → onto_first byte lines ≡ (byte ∷ get_or lines 0 []) ∷ drop 1 lines
onto_is byte [] = refl
onto_is byte (line ∷ lines) = refl

strip_step : (byte next : ℕ) (line : List ℕ) → strip_carriage_return (byte ∷ next ∷ line) ≡ byte ∷ strip_carriage_return (next ∷ line)
strip_step byte next line =
    let last : length (byte ∷ next ∷ line) - 1 ≡ suc (length (next ∷ line) - 1) = omega arith in
    rw last (grind arith)

-- a CR that is the last byte is not read, and nothing stands there
part_reads : (byte : ℕ) (line : List ℕ) → (goes_on (part_of (byte ∷ line)) ≡ is_name_byte byte)
    × (pieces_of (part_of (byte ∷ line)) ≡ cond (is_hash byte) [] (onto_pieces byte (sign_of byte) (goes_on (part_of line)) (pieces_of (part_of line))))
unfolding part_of
part_reads byte [] = (grind (arith, class_is byte), grind (arith, class_is byte))
part_reads byte (next ∷ line) =
    rw (strip_step byte next line, take_while-cons (λ b. not (is_hash b)) byte (strip_carriage_return (next ∷ line))) (grind (arith, class_is byte), grind (arith, class_is byte))

first_reads : (text : List ℕ) → (goes_on (part_of (first_line text)) ≡ goes_on text) × (pieces_of (part_of (first_line text)) ≡ line_pieces text)
unfolding part_of
first_reads [] = (refl, refl)
first_reads (byte ∷ text) =
    let read = part_reads byte (first_line text) in
    let rest = first_reads text in
    (grind (arith, class_is byte, onto_is byte (lines_of text), read.0), grind (arith, class_is byte, onto_is byte (lines_of text), read.1, rest.0, rest.1))

-- ---- one byte on

-- the piece that begins with a byte, given its mark, whether it is of a name, and whether a name byte stands before it
abbrev begun : Option Mark → Bool → Bool → List ℕ → List Piece
begun (Some mark) named after name = Sign mark ∷ []
begun None named after name = if named && not after then Word name ∷ [] else []

abbrev begins : (within after : Bool) → ℕ → List ℕ → List Piece
begins within after byte rest =
    if stays_in_comment within byte then [] else begun (sign_of byte) (is_name_byte byte) after (byte ∷ name_at rest)

-- what stands in the first line, from a byte on or not, without the name that goes on into it
abbrev behind : (within after : Bool) → List ℕ → List Piece
behind within after text = if within then [] else if after && goes_on text then drop 1 (line_pieces text) else line_pieces text

name_first : (text : List ℕ) → goes_on text ≡ true → line_pieces text ≡ Word (name_at text) ∷ drop 1 (line_pieces text)
name_first [] is = cc
name_first (byte ∷ rest) is = grind (arith, is, named_byte byte is, name_first rest, no_name rest, take_while-cons is_name_byte byte rest)

behind_step : (within after : Bool) (byte : ℕ) (text : List ℕ) (class : Class) → IsOfClass byte class → is_line_feed byte ≡ false
    → behind within after (byte ∷ text) ≡ begins within after byte text ++ behind (stays_in_comment within byte) (is_name_byte byte) text
unfolding stays_in_comment
behind_step within after byte text class is goes = grind (arith, is, goes, name_first text, no_name text)

-- ---- rows

-- the pieces of lines with their numbers
abbrev in_rows : ℕ → List (List ℕ) → List (ℕ × Piece)
in_rows k lines = flat_map placed_pieces (rows_in (enumerate_from k (map part_of lines)))

abbrev from_here : (within after : Bool) → ℕ → List ℕ → List (ℕ × Piece)
from_here within after k text = at k (behind within after text) ++ in_rows (k + 1) (drop 1 (lines_of text))

rows_from : (k : ℕ) (text : List ℕ) → in_rows k (lines_of text) ≡ from_here false false k text
unfolding part_of
rows_from k text = by_lines (lines_of text) (first_reads text).1 where
  by_lines : (lines : List (List ℕ)) → pieces_of (part_of (get_or lines 0 [])) ≡ line_pieces text
      → in_rows k lines ≡ at k (line_pieces text) ++ in_rows (k + 1) (drop 1 lines)
  by_lines [] is = rw (sym is) refl
  by_lines (line ∷ lines) is = rw is (by_pieces (line_pieces text) (rows_in (enumerate_from (k + 1) (map part_of lines)))) where
    by_pieces : (pieces : List Piece) (rows : List Row) → flat_map placed_pieces (cond (is_some (record { at = k; pieces = pieces })) (record { at = k; pieces = pieces } ∷ rows) rows)
        ≡ at k pieces ++ flat_map placed_pieces rows
    by_pieces [] rows = refl
    by_pieces (piece ∷ pieces) rows = refl

step_on : (within after : Bool) (k byte : ℕ) (text : List ℕ) (class : Class) → IsOfClass byte class → from_here within after k (byte ∷ text)
    ≡ at k (begins within after byte text) ++ from_here (stays_in_comment within byte) (is_name_byte byte) (if is_line_feed byte then k + 1 else k) text
unfolding stays_in_comment
step_on within after k byte text class.Feed is = grind (arith, is, rows_from (k + 1) text)
step_on within after k byte text class is =
    rw (onto_is byte (lines_of text), behind_step within after byte text class is is.feed, is.feed, map-append, append_assoc) refl

-- ---- tokens

no_name_sign : (byte : ℕ) → sign_of byte ≡ Some mark.Name → ⊥
unfolding sign_of
no_name_sign byte sign = grind (arith, sign)

name_here : (text : List ℕ) (i : ℕ) → i < length text → is_name_byte (get_or text i 0) ≡ true
    → take (i + name_length text i - i) (drop i text) ≡ get_or text i 0 ∷ name_at (drop (i + 1) text)
unfolding name_length
name_here text i within named =
    let size : i + name_length text i - i ≡ name_length text i = omega arith in
    rw (size, drop_more text i 0 within) (grind (arith, named, take_while-cons is_name_byte (get_or text i 0) (drop (i + 1) text)))

-- the token of a place is the piece that begins there
token_piece : (text : List ℕ) (i : ℕ) (class : Class) → i < length text → IsOfClass (get_or text i 0) class
    → map (piece_of text) (option_to_list (token_by text i (scan_at text i) class)) ≡ at (line_at text i) (begins (follows_comment text i) (follows_name text i) (get_or text i 0) (drop (i + 1) text))
unfolding stays_in_comment name_length
token_piece text i class.Name within is = grind (arith, is, name_here text i within is.name)
token_piece text i (class.Sign mark.Name) within is = absurd (no_name_sign (get_or text i 0) is.sign)
token_piece text i class within is = grind (arith, is)

-- the tokens before a place, and the pieces of the lines from there on
passed : (text : List ℕ) (i : ℕ) → i ≤ length text
    → map (piece_of text) (tokens_before text i) ++ from_here (follows_comment text i) (follows_name text i) (line_at text i) (drop i text) ≡ in_rows 1 (lines_of text)
unfolding tokens_before line_at
passed text zero within = sym (rows_from 1 text)
passed text (suc i) within =
    let next : suc i ≡ i + 1 = omega arith in
    let byte = get_or text i 0 in
    let rest = drop_more text i 0 (omega arith) in
    rw (map-append, append_assoc, sym (place_is text i (scan_at text i) refl).1, token_piece text i (class_of byte) (omega arith) (class_is byte), next, is_comment_step text i)
    (rw (rest, step_on (follows_comment text i) (follows_name text i) (line_at text i) byte (drop (i + 1) text) (class_of byte) (class_is byte)) at (passed text i (omega arith)))

pub rows_are_tokens : (text : List ℕ) → flat_map placed_pieces (rows_of text) ≡ map (piece_of text) (tokens_of text)
unfolding rows_of parts_of
rows_are_tokens text =
    let all = passed text (length text) (omega arith) in
    let nothing : behind (follows_comment text (length text)) (follows_name text (length text)) [] ≡ [] = grind arith in
    sym (rw (drop_all (length text) text (omega arith), nothing, append-nil (map (piece_of text) (tokens_of text))) at all)
