-- The lines of a netlist text, by their names.
use Rattle.std.specs.Prelude.{ℕ, List, [], ◌∷◌, ◌++◌, length}
use Rattle.std.specs.List.{flat_map, sum_by}
use Rattle.logic_four.specs.declared.Kind.{Kind}

pub data Line : Type 0 where
  -- the stimulus drives the name
  Input : (name : List ℕ) → Line
  -- the name is printed
  Output : (name : List ℕ) → Line
  -- a gate of this kind drives the name, from these
  Gate : (name : List ℕ) (kind : Kind) (uses : List (List ℕ)) → Line
  -- a register drives the name, from this one
  Register : (name use_ : List ℕ) → Line
  -- a memory drives these names, from its write enable, its address and its data
  Memory : (outs : List (List ℕ)) (enable : List ℕ) (address words : List (List ℕ)) → Line

-- the names that it drives
abbrev pub driven : Line → List (List ℕ)
driven (Input name) = name ∷ []
driven (Output name) = []
driven (Gate name kind uses) = name ∷ []
driven (Register name use_) = name ∷ []
driven (Memory outs enable address words) = outs

-- the names that it uses, from left to right
abbrev pub used : Line → List (List ℕ)
used (Input name) = []
used (Output name) = name ∷ []
used (Gate name kind uses) = uses
used (Register name use_) = use_ ∷ []
used (Memory outs enable address words) = enable ∷ (address ++ words)

-- its operands: the names that it uses, but for that of an output line
abbrev pub operands : Line → List (List ℕ)
operands (Output name) = []
operands line = used line

-- the same of lines
unfoldable pub all_driven : List Line → List (List ℕ)
all_driven lines = flat_map driven lines

unfoldable pub all_used : List Line → List (List ℕ)
all_used lines = flat_map used lines

unfoldable pub operand_count : List Line → ℕ
operand_count lines = sum_by (λ line. length (operands line)) lines
