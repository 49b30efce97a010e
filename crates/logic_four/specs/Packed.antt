-- Values packed as codes of two bits into words of 64 bits, 32 to a word, the first of them lowest.
use Rattle.std.specs.Prelude.{ℕ, ◌*◌, ◌/◌, ◌%◌, ◌^◌, List, slice_index}
use Rattle.logic_four.specs.{declared.V4.V4, Values.value_of}

-- the code in place i of a word: bit 2 * i and the next
abbrev pub code_in : ℕ → ℕ → ℕ
code_in word i = word / 2 ^ (2 * i) % 4

-- the value in a place of a list of words: place e is place e mod 32 of word e div 32
unfoldable pub packed_value : List ℕ → ℕ → V4
packed_value words place = value_of (code_in (slice_index words (place / 32)) (place % 32))
