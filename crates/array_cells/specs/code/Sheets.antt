-- Packed words, all of which one new number clears.
use Rattle.std.specs.Prelude.{◌≡◌, ◌==◌, ℕ, ◌<◌, ◌≤◌, List, length, map, slice_index, if◌then◌else◌}
use Rattle.std.specs.List.{range_with_len}
use Rattle.array_cells.specs.declared.sheet.TheConstants.{BLANK}

-- a word as it reads after so many clearings: as it was written if it has seen the last of them, else undefined
abbrev pub word_after : ℕ → ℕ → ℕ → ℕ
word_after word seen clearings = if seen == clearings then word else BLANK

-- all words
unfoldable pub words_after : List ℕ → List ℕ → ℕ → List ℕ
words_after words seen clearings =
    map (λ k. word_after (slice_index words k) (slice_index seen k) clearings) (range_with_len 0 (length words))

-- each word has seen a clearing that was
pub record IsDated (words seen : List ℕ) (clearings : ℕ) : Type 0 where
  pub count : length seen ≡ length words
  pub past : (k : ℕ) → k < length words → slice_index seen k ≤ clearings
