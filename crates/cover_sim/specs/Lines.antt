-- The lines of the marks of all signals.
use Rattle.std.specs.Prelude.{ℕ, Bool, ◌&&◌, if◌then◌else◌, List, [], ◌∷◌, ◌++◌, length, map, count_by, codes, decimal}
use Rattle.std.specs.List.{zip}
use Rattle.net_defs.specs.declared.netlist.Netlist.{Netlist}
use Rattle.cover_sim.specs.declared.marks.Marks.{Marks}

-- the sign of a mark that a signal has, and `-` for one that it lacks
abbrev pub sign_of : Bool → List ℕ → List ℕ
sign_of has sign = if has then sign else codes "-"

-- the line of a signal: its name, and its marks in the places of `0`, `1`, `r` and `f`
unfoldable pub signal_line : List ℕ → Marks → List ℕ
signal_line name marks =
    name ++ codes " " ++ sign_of marks.zero (codes "0") ++ sign_of marks.one (codes "1")
    ++ sign_of marks.rise (codes "r") ++ sign_of marks.fall (codes "f") ++ codes "\n"

-- a signal is covered where it has all four marks
abbrev pub is_covered : Marks → Bool
is_covered marks = marks.zero && marks.one && marks.rise && marks.fall

-- how many signals are covered, and how many there are
unfoldable pub covered_line : ℕ → ℕ → List ℕ
covered_line covered all = codes "covered " ++ decimal covered ++ codes " of " ++ decimal all ++ codes "\n"

-- a line for each signal in signal order, and a last one on how many are covered
abbrev pub cover_lines : Netlist → List Marks → List (List ℕ)
cover_lines net marks =
    map (λ p. signal_line p.0.name p.1) (zip net.signals marks)
    ++ covered_line (count_by is_covered marks) (length marks) ∷ []
