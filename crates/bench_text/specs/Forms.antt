-- The forms of the lines of a netlist text, by the names that stand in them. A word is any name.
use Rattle.std.specs.Prelude.{ℕ, List, ◌∷◌}

-- one name or more
pub record Names : Type 0 where
  pub first : List ℕ
  pub others : List (List ℕ)

abbrev pub all_of : Names → List (List ℕ)
all_of names = names.first ∷ names.others

pub data Form : Type 0 where
  -- a word and one name in brackets
  Port : (word name : List ℕ) → Form
  -- a name that is driven, a word, and the names that it uses
  Gate : (name word : List ℕ) (uses : Names) → Form
  -- the names that a memory drives, a word, its write enable, its address and its data
  Memory : (outs : Names) (word enable : List ℕ) (address words : Names) → Form
