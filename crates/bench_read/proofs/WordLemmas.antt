-- The words of a text without a fault are names.
use Rattle.std.proofs.Common.{◌≡◌, ℕ, ◌-◌, List, [], ◌∷◌, length, take, drop, None, subst, sym, refl, arith}
use Rattle.std.proofs.lemmas.List.{length-take, length-drop, Elements.All-map, Elements.All-weaker, Elements.recursion_from_All, Sums.list_all-from_AllPass}
use Rattle.std.specs.List.{All, AllByRecursion, flat_map}
use Rattle.bench_read.proofs.Common.{all_front, all_back, all_of_map, Mark, Piece, Sign, Word}
use Rattle.text_lines.specs.Names.{is_name_byte, IsName}
use Rattle.text_lines.proofs.lemmas.AnswerLemmas.{none_below}
use Rattle.bench_text.specs.declared.token.Mark.TheVariants as mark
use Rattle.bench_text.specs.Rows.{Row, rows_of, placed_pieces, piece_of}
use Rattle.bench_text.specs.{declared.token.Token.Token, Spans.AreBytesOf, Spans.StandsIn, Tokens.fault_at, Tokens.first_fault, Tokens.tokens_of}
use Rattle.bench_text.proofs.{lemmas.SpanLemmas.list_read, TokenLemmas.rows_are_tokens}

-- a piece is a mark, or a word that is a name
abbrev pub IsNamed : Piece → Type 0
IsNamed (Sign mark) = Unit {0}
IsNamed (Word name) = IsName name

token_named : (text : List ℕ) (token : Token) → StandsIn text token → IsNamed (piece_of text token).1
token_named text token stands = by_mark token.mark stands.bytes where
  by_mark : (mark : Mark) → AreBytesOf mark text token.from token.upto → IsNamed (piece_of text (record { mark = mark; from = token.from; upto = token.upto; line = token.line })).1
  by_mark mark.Name is = record {
    some = simp (length-take, length-drop) (omega (arith, stands.some, stands.within));
    short = simp (length-take, length-drop) (omega (arith, is.short));
    bytes = list_all-from_AllPass is_name_byte (take (token.upto - token.from) (drop token.from text)) is.bytes;
  }
  by_mark mark is = tt

rows_from_pieces : (rows : List Row) → All (λ p. IsNamed p.1) (flat_map placed_pieces rows) → AllByRecursion (λ row. AllByRecursion IsNamed row.pieces) rows
rows_from_pieces [] all = tt
rows_from_pieces (row ∷ rows) all =
    let mine = all_of_map (λ p. IsNamed p.1) (λ piece. (row.at, piece)) row.pieces (all_front (λ p. IsNamed p.1) (placed_pieces row) (flat_map placed_pieces rows) all) in
    (recursion_from_All IsNamed row.pieces mine, rows_from_pieces rows (all_back (λ p. IsNamed p.1) (placed_pieces row) (flat_map placed_pieces rows) all))

-- the rows of a text without a fault are of marks and names
pub rows_named : (text : List ℕ) → first_fault text ≡ None → AllByRecursion (λ row. AllByRecursion IsNamed row.pieces) (rows_of text)
rows_named text none =
    let spans = (list_read text (length text) (tokens_of text) (none_below (fault_at text) (length text) none) refl refl).spans in
    let pieces = All-map (λ p. IsNamed p.1) (piece_of text) (tokens_of text) (All-weaker (StandsIn text) (λ token. IsNamed (piece_of text token).1) (token_named text) (tokens_of text) spans) in
    rows_from_pieces (rows_of text) (subst (All (λ p. IsNamed p.1)) (sym (rows_are_tokens text)) pieces)
