-- What the tokens of a text cover.
use Rattle.std.specs.Prelude.{◌≡◌, ℕ, ◌+◌, ◌-◌, ◌<◌, ◌≤◌, false, List, length, slice_index, slice_range, codes}
use Rattle.std.specs.List.{Any, AllPass}
use Rattle.limits.specs.declared.TheConstants.{MAX_NAME_BYTES}
use Rattle.text_lines.specs.{Bytes.is_blank, Places.is_comment, Places.line_at, Places.is_line_end, Names.is_name_byte}
use Rattle.bench_text.specs.declared.token.Mark.TheVariants.{Open, Close, Comma, Equals, Semi, Left, Right, Name}
use Rattle.bench_text.specs.declared.token.{Mark.Mark, Token.Token}

-- A name stands from one place up to another: name bytes, at most 255 of them, and no name byte just
-- before or just after them.
pub record IsNameAt (text : List ℕ) (from upto : ℕ) : Type 0 where
  pub bytes : AllPass is_name_byte (slice_range text from upto)
  pub short : upto ≤ from + MAX_NAME_BYTES
  pub before : 0 < from → is_name_byte (slice_index text (from - 1)) ≡ false
  pub after : upto < length text → is_name_byte (slice_index text upto) ≡ false

-- the bytes from one place up to another are a token of this mark
abbrev pub AreBytesOf : Mark → List ℕ → ℕ → ℕ → Type 0
AreBytesOf Open text from upto = slice_range text from upto ≡ codes "("
AreBytesOf Close text from upto = slice_range text from upto ≡ codes ")"
AreBytesOf Comma text from upto = slice_range text from upto ≡ codes ","
AreBytesOf Equals text from upto = slice_range text from upto ≡ codes "="
AreBytesOf Semi text from upto = slice_range text from upto ≡ codes ";"
AreBytesOf Left text from upto = slice_range text from upto ≡ codes "["
AreBytesOf Right text from upto = slice_range text from upto ≡ codes "]"
AreBytesOf Name text from upto = IsNameAt text from upto

-- the token is one byte or more of the text, those of its mark, and is in the line of the first
pub record StandsIn (text : List ℕ) (token : Token) : Type 0 where
  pub some : token.from < token.upto
  pub within : token.upto ≤ length text
  pub line : token.line ≡ line_at text token.from
  pub bytes : AreBytesOf token.mark text token.from token.upto

-- one token ends before another begins, and is in no later line
abbrev pub IsBefore : Token → Token → Type 0
IsBefore a b = (a.upto ≤ b.from) × (a.line ≤ b.line)

-- one of the tokens has the byte at a place
abbrev pub IsCovered : List Token → ℕ → Type 0
IsCovered tokens i = Any (λ token. (token.from ≤ i) × (i < token.upto)) tokens

-- the byte at a place is neither in a comment nor a blank nor a line end
abbrev pub IsRead : List ℕ → ℕ → Type 0
IsRead text i = (is_comment text i ≡ false) × (is_blank (slice_index text i) ≡ false) × (is_line_end text i ≡ false)
