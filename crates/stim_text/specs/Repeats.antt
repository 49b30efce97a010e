-- The part of a line outside its comment, and the repeat that it may end with: `*` and a number. Rows
-- of stimuli and lines of orders end alike.
use Rattle.std.specs.Prelude.{ℕ, ◌+◌, Bool, List, [], ◌∷◌, take, slice_index_or, length, Option, Some, None}
use Rattle.std.specs.{List.list_all, List.filter_map, List.sum_by, Option.option_and_then}
use Rattle.text_lines.specs.{Answers.first, Bytes.is_blank, Bytes.cut_at, Words.words_of, Numbers.number_of, Numbers.within}
use Rattle.limits.specs.declared.TheConstants.{MAX_REPEAT}

-- whether the part of a line has blanks alone
unfoldable pub is_blank_part : List ℕ → Bool
is_blank_part part = list_all is_blank part

-- ---- a number with blanks around

-- the word of a text that has just one
abbrev pub only_word : List (List ℕ) → Option (List ℕ)
only_word (word ∷ []) = Some word
only_word _ = None

-- the number that a text is, with blanks around
unfoldable pub number_in : List ℕ → Option ℕ
number_in text = option_and_then number_of (only_word (words_of text))

-- ---- what stands before the repeat of a line, and the repeat

abbrev pub before_star : List ℕ → Option (List ℕ × List ℕ) → List ℕ
before_star part None = part
before_star part (Some parts) = parts.0

-- what stands before the first `*` of a line, or the whole line where it has none
unfoldable pub before_repeat : List ℕ → List ℕ
before_repeat part = before_star part (cut_at 42 part)

-- a number of 1 to 1,000,000
abbrev pub repeat_in : List ℕ → Option ℕ
repeat_in text = within 1 MAX_REPEAT (number_in text)

abbrev pub after_star : Option (List ℕ × List ℕ) → Option ℕ
after_star None = Some 1
after_star (Some parts) = repeat_in parts.1

-- the repeat of a line: the number after its first `*`, where that is an allowed one, or 1 where it
-- has no `*`
unfoldable pub repeat_of : List ℕ → Option ℕ
repeat_of part = after_star (cut_at 42 part)

-- ---- the first fault of a text of such lines

-- The fault of the line at a place among the lines, counted from 0. The lines before it are read as
-- items, each of which stands for so many cycles or steps, and their sum is what the line is asked
-- after; it is asked with its number, which is counted from 1.
abbrev pub fault_at : {X E : Type 0} → (List ℕ → Option X) → (X → ℕ) → (ℕ → ℕ → List ℕ → Option E) → List (List ℕ) → ℕ → Option E
fault_at item times fault parts i =
    fault (sum_by times (filter_map item (take i parts))) (i + 1) (slice_index_or parts i [])

-- the fault of the first line that has one
abbrev pub first_fault_of : {X E : Type 0} → (List ℕ → Option X) → (X → ℕ) → (ℕ → ℕ → List ℕ → Option E) → List (List ℕ) → Option E
first_fault_of item times fault parts = first (fault_at item times fault parts) (length parts)
