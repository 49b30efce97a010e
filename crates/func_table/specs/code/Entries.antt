-- Beside specs/Entries.antt, what only private functions and proofs cite.
use Rattle.std.specs.Prelude.{ℕ, ◌/◌, ◌%◌, List, [], ◌∷◌, take}
use Rattle.logic_four.specs.{declared.V4.V4, declared.Kind.Kind, Values.value_of, Gates.gate_value}

-- the four operands for which entry e is
abbrev pub operands_at : ℕ → List V4
operands_at e = value_of (e % 4) ∷ value_of (e / 4 % 4) ∷ value_of (e / 16 % 4) ∷ value_of (e / 64 % 4) ∷ []

-- what a node of n operands answers at entry e
abbrev pub answer_at : Kind → ℕ → ℕ → V4
answer_at kind n e = gate_value kind (take n (operands_at e))
