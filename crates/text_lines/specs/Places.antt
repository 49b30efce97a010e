-- The places of a text: its bytes are numbered from 0, and each stands in a line and a column.
use Rattle.std.specs.Prelude.{ℕ, zero, suc, ◌+◌, Bool, false, ◌&&◌, ◌||◌, not, ◌==◌, if◌then◌else◌, List, length, slice_index}
use Rattle.text_lines.specs.Bytes.{is_line_feed, is_return, is_hash}

-- Whether a byte is inside a comment, given whether the byte before it is: it begins one, or the
-- line goes on.
unfoldable pub stays_in_comment : Bool → ℕ → Bool
stays_in_comment within byte = is_hash byte || (within && not (is_line_feed byte))

-- whether the byte at a place is inside a comment; the `#` is, and the LF is not
unfoldable pub is_comment : List ℕ → ℕ → Bool
is_comment text zero = stays_in_comment false (slice_index text 0)
is_comment text (suc i) = stays_in_comment (is_comment text i) (slice_index text (suc i))

-- the line of a place, from 1
unfoldable pub line_at : List ℕ → ℕ → ℕ
line_at text zero = 1
line_at text (suc i) = if is_line_feed (slice_index text i) then line_at text i + 1 else line_at text i

-- the column of a place in its line, from 1
unfoldable pub column_at : List ℕ → ℕ → ℕ
column_at text zero = 1
column_at text (suc i) = if is_line_feed (slice_index text i) then 1 else column_at text i + 1

-- whether the byte at a place ends its line: LF, or a CR just before LF or the end of the text
unfoldable pub is_line_end : List ℕ → ℕ → Bool
is_line_end text i =
    is_line_feed (slice_index text i)
    || (is_return (slice_index text i) && (length text == i + 1 || is_line_feed (slice_index text (i + 1))))
