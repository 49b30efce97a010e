-- The rows of a netlist text: the marks and names of each of its lines that has any.
use Rattle.std.specs.Prelude.{ℕ, Bool, true, false, List, [], ◌∷◌, map, filter, slice_range, Option, Some, None, if◌then◌else◌}
use Rattle.std.specs.List.{enumerate_from}
use Rattle.text_lines.specs.{Lines.parts_of, Names.is_name_byte}
use Rattle.bench_text.specs.{declared.token.Mark.Mark, declared.token.Mark.TheVariants.Name, declared.token.Token.Token, Bytes.sign_of}
use Rattle.bench_text.specs.Spelling.{Piece, Sign, Word}

-- whether a name goes on with the first of these bytes
abbrev pub goes_on : List ℕ → Bool
goes_on [] = false
goes_on (byte ∷ rest) = is_name_byte byte

-- a byte before the name at the front
abbrev pub onto_word : ℕ → List Piece → List Piece
onto_word byte (Word name ∷ pieces) = Word (byte ∷ name) ∷ pieces
onto_word byte pieces = pieces

abbrev pub named_byte : ℕ → Bool → List Piece → List Piece
named_byte byte more pieces = if more then onto_word byte pieces else Word (byte ∷ []) ∷ pieces

-- a byte before pieces: a mark by itself, a byte of a name, or nothing
abbrev pub onto_pieces : ℕ → Option Mark → Bool → List Piece → List Piece
onto_pieces byte (Some mark) more pieces = Sign mark ∷ pieces
onto_pieces byte None more pieces = if is_name_byte byte then named_byte byte more pieces else pieces

-- the marks and names of bytes, a name being a longest run of name bytes
abbrev pub pieces_of : List ℕ → List Piece
pieces_of [] = []
pieces_of (byte ∷ rest) = onto_pieces byte (sign_of byte) (goes_on rest) (pieces_of rest)

-- what stands in a line, and the line's number
pub record Row : Type 0 where
  pub at : ℕ
  pub pieces : List Piece

abbrev pub row_of : (ℕ × List ℕ) → Row
row_of p = record { at = p.0; pieces = pieces_of p.1 }

abbrev pub is_some : Row → Bool
is_some row = some_in row.pieces where
  some_in : List Piece → Bool
  some_in [] = false
  some_in (piece ∷ pieces) = true

-- the rows of lines, by their numbers and what is read of them
abbrev pub rows_in : List (ℕ × List ℕ) → List Row
rows_in lines = filter is_some (map row_of lines)

-- the rows of a text: lines are numbered from 1, and what is read of one ends before its comment
unfoldable pub rows_of : List ℕ → List Row
rows_of text = rows_in (enumerate_from 1 (parts_of text))

-- ---- rows and tokens

-- what stands in a row, each mark and name with the line's number
abbrev pub placed_pieces : Row → List (ℕ × Piece)
placed_pieces row = map (λ piece. (row.at, piece)) row.pieces

-- the mark of a token, or its bytes where it is a name, with the line's number
abbrev pub piece_of : List ℕ → Token → ℕ × Piece
piece_of text token = (token.line, by_mark token.mark) where
  by_mark : Mark → Piece
  by_mark Name = Word (slice_range text token.from token.upto)
  by_mark mark = Sign mark
