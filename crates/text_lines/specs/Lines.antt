-- The lines of a text.
use Rattle.std.specs.Prelude.{ℕ, List, [], ◌∷◌, map, if◌then◌else◌}
use Rattle.std.specs.{List.before_first, List.onto_first, Str.Lines.strip_carriage_return}
use Rattle.text_lines.specs.Bytes.{is_line_feed, is_hash}

-- the lines, each without the LF that ends it; the last one may have none
abbrev pub lines_of : List ℕ → List (List ℕ)
lines_of [] = []
lines_of (byte ∷ text) = if is_line_feed byte then [] ∷ lines_of text else onto_first byte (lines_of text)

-- the part of a line that is read: without the CR that ends it, and before its comment
unfoldable pub part_of : List ℕ → List ℕ
part_of line = before_first is_hash (strip_carriage_return line)

-- the parts of the lines of a text
unfoldable pub parts_of : List ℕ → List (List ℕ)
parts_of text = map part_of (lines_of text)
