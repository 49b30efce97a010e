-- Beside specs/plain, what only private functions and proofs cite.
use Rattle.std.specs.Prelude.{◌≡◌, ℕ, ◌%◌, None, Option, Some}
use Rattle.logic_four.specs.Values.{value_of}
use Rattle.slot_words.specs.declared.crossbar.Taken.{Taken, TheVariants.NotYet, TheVariants.Value}

-- what a number that was taken says
abbrev pub IsTakenOf : Option ℕ → Taken → Type 0
IsTakenOf (Some number) (Value v) = v ≡ value_of (number % 4)
IsTakenOf (Some number) NotYet = ⊥
IsTakenOf None (Value v) = ⊥
IsTakenOf None NotYet = Unit {0}
