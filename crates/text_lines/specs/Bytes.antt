-- What a byte is in a text of lines.
use Rattle.std.specs.Prelude.{ℕ, Bool, ◌+◌, ◌==◌, ◌||◌, List, Option, take, drop}
use Rattle.std.specs.{List.position, Option.option_map, Char.is_ascii_graphic}

-- LF, which ends a line
abbrev pub is_line_feed : ℕ → Bool
is_line_feed byte = byte == 10

-- CR, which belongs to no line where it stands just before the end of one
abbrev pub is_return : ℕ → Bool
is_return byte = byte == 13

-- `#`, which begins a comment
abbrev pub is_hash : ℕ → Bool
is_hash byte = byte == 35

-- a space or a tab
unfoldable pub is_blank : ℕ → Bool
is_blank byte = byte == 32 || byte == 9

-- from 0x21 to 0x7E
unfoldable pub is_visible : ℕ → Bool
is_visible byte = is_ascii_graphic byte

-- what stands before and after the first of these bytes in a text, where there is one
abbrev pub cut_at : ℕ → List ℕ → Option (List ℕ × List ℕ)
cut_at byte text = option_map (λ i. (take i text, drop (i + 1) text)) (position (λ b. b == byte) text)
