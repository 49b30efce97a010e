-- What the lines of a text say, one after another, each with its number.
use Rattle.std.specs.Prelude.{ℕ, Bool, true, false, List, [], ◌∷◌, Option}
use Rattle.text_lines.specs.Words.{words_of}
use Rattle.machine_text.specs.{declared.quantity.Version.Version, declared.saying.Says.Says, Settings.line_says, Settings.settled}

abbrev pub no_words : List (List ℕ) → Bool
no_words [] = true
no_words _ = false

-- what numbered lines say, with their numbers
unfoldable pub said_lines : Option Version → List (ℕ × List ℕ) → List (ℕ × Says)
said_lines version [] = []
said_lines version (line ∷ lines) =
    (line.0, line_says version (words_of line.1)) ∷ said_lines (settled version (words_of line.1)) lines
