-- What stands at the front of a part of a line.
use Rattle.std.specs.Prelude.{ℕ, Bool, false, ◌&&◌, not, List, Option, Some, None, drop}
use Rattle.std.specs.{List.prefix_len, Option.is_some}
use Rattle.text_lines.specs.Names.{is_name_byte}
use Rattle.bench_text.specs.{Bytes.sign_of, declared.token.Mark.Mark, Spelling.same_mark}

-- a byte that is no mark and of no name
unfoldable pub is_filler : ℕ → Bool
is_filler byte = not (is_some (sign_of byte)) && not (is_name_byte byte)

-- the part from its first mark or name on
abbrev pub without_filler : List ℕ → List ℕ
without_filler part = drop (prefix_len is_filler part) part

abbrev pub is_this : Mark → Option Mark → Bool
is_this mark None = false
is_this mark (Some other) = same_mark other mark
