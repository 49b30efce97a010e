-- Texts whose lines are blank or name something, each thing once.
use Rattle.std.specs.Prelude.{◌==◌, ℕ, ◌+◌, Bool, List, [], length, take, slice_index_or, Option}
use Rattle.std.specs.List.{list_any, filter_map}
use Rattle.text_lines.specs.Answers.{first}

-- one of these has the number of this one
abbrev pub is_among : {X : Type 0} → (X → ℕ) → List X → X → Bool
is_among number named x = list_any (λ other. number other == number x) named

-- The fault of the line at a place among the lines, counted from 0. It is asked after what the lines
-- before it name, with its number, which is counted from 1.
abbrev pub fault_at : {X E : Type 0} → (List ℕ → Option X) → (List X → ℕ → List ℕ → Option E) → List (List ℕ) → ℕ → Option E
fault_at item fault parts i = fault (filter_map item (take i parts)) (i + 1) (slice_index_or parts i [])

-- the fault of the first line that has one
abbrev pub first_fault_of : {X E : Type 0} → (List ℕ → Option X) → (List X → ℕ → List ℕ → Option E) → List (List ℕ) → Option E
first_fault_of item fault parts = first (fault_at item fault parts) (length parts)
