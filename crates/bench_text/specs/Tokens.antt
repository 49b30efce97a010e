-- The tokens of a netlist text and its first fault, each said of a place of the text.
use Rattle.std.specs.Prelude.{ℕ, zero, suc, ◌+◌, Bool, false, ◌&&◌, not, List, [], ◌++◌, length, drop, slice_index, Option, Some, None, if◌then◌else◌, nat_lt}
use Rattle.std.specs.{Option.option_to_list, List.prefix_len}
use Rattle.limits.specs.declared.TheConstants.{MAX_NAME_BYTES}
use Rattle.text_lines.specs.Places.{is_comment, line_at, column_at, is_line_end}
use Rattle.text_lines.specs.{Bytes.is_visible, Bytes.is_blank, Answers.first, Names.is_name_byte}
use Rattle.bench_text.specs.declared.token.{Mark.Mark, Mark.TheVariants.Name, Token.Token, TextNo.TextNo}
use Rattle.bench_text.specs.{declared.token.TextNo.TheVariants.BadByte, declared.token.TextNo.TheVariants.LongName, Bytes.sign_of}

-- whether the byte just before a place is a name byte
abbrev pub follows_name : List ℕ → ℕ → Bool
follows_name text zero = false
follows_name text (suc i) = is_name_byte (slice_index text i)

-- whether a name begins at a place: a name byte is there, outside a comment, and none just before it
unfoldable pub begins_name : List ℕ → ℕ → Bool
begins_name text i =
    not (is_comment text i) && is_name_byte (slice_index text i) && not (follows_name text i)

-- how many name bytes stand in a row from a place on
unfoldable pub name_length : List ℕ → ℕ → ℕ
name_length text i = prefix_len is_name_byte (drop i text)

-- the token at a place outside a comment, by the mark of the byte there, if it is one by itself
abbrev pub token_of_sign : List ℕ → ℕ → Option Mark → Option Token
token_of_sign text i (Some mark) =
    Some (record { mark = mark; from = i; upto = i + 1; line = line_at text i })
token_of_sign text i None =
    if begins_name text i
    then Some (record { mark = Name; from = i; upto = i + name_length text i; line = line_at text i })
    else None

-- the token whose first byte is at a place
unfoldable pub token_at : List ℕ → ℕ → Option Token
token_at text i = if is_comment text i then None else token_of_sign text i (sign_of (slice_index text i))

-- the tokens whose first bytes are before a place
unfoldable pub tokens_before : List ℕ → ℕ → List Token
tokens_before text zero = []
tokens_before text (suc i) = tokens_before text i ++ option_to_list (token_at text i)

-- the tokens of a text
abbrev pub tokens_of : List ℕ → List Token
tokens_of text = tokens_before text (length text)

-- whether a byte is none that a text may have: outside a comment, no blank, no line end, not from 0x21 to 0x7E
unfoldable pub is_bad : List ℕ → ℕ → Bool
is_bad text i =
    not (is_comment text i) && not (is_blank (slice_index text i)) && not (is_line_end text i)
    && not (is_visible (slice_index text i))

-- the fault at a place: a bad byte, or a name that begins there and has more than 255 bytes
unfoldable pub fault_at : List ℕ → ℕ → Option TextNo
fault_at text i =
    if is_bad text i then Some (BadByte (line_at text i) (column_at text i))
    else if begins_name text i && nat_lt MAX_NAME_BYTES (name_length text i) then Some (LongName (line_at text i))
    else None

-- the fault of the first place that has one
abbrev pub first_fault : List ℕ → Option TextNo
first_fault text = first (fault_at text) (length text)
