-- The words of a part of a line.
use Rattle.std.specs.Prelude.{ℕ, List, Bool, length, nat_lt, filter}
use Rattle.std.specs.List.{slice_split}
use Rattle.text_lines.specs.Bytes.{is_blank}

abbrev pub is_nonempty : List ℕ → Bool
is_nonempty piece = nat_lt 0 (length piece)

-- what stands between the blanks, in order
unfoldable pub words_of : List ℕ → List (List ℕ)
words_of part = filter is_nonempty (slice_split is_blank part)
