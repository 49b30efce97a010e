-- The summary of a run of a large design.
use Rattle.std.specs.Prelude.{ℕ, Bool, true, false, List, ◌++◌, count_by, codes, decimal}
use Rattle.logic_four.specs.declared.V4.TheVariants.{Zero, One, Undef, HighZ}
use Rattle.logic_four.specs.declared.V4.{V4}
use Rattle.large_run.specs.declared.summary.{CellCounts.CellCounts, Summary.Summary}

abbrev pub is_zero : V4 → Bool
is_zero Zero = true
is_zero One = false
is_zero Undef = false
is_zero HighZ = false

abbrev pub is_one : V4 → Bool
is_one Zero = false
is_one One = true
is_one Undef = false
is_one HighZ = false

abbrev pub is_undefined : V4 → Bool
is_undefined Zero = false
is_undefined One = false
is_undefined Undef = true
is_undefined HighZ = false

abbrev pub is_high_impedance : V4 → Bool
is_high_impedance Zero = false
is_high_impedance One = false
is_high_impedance Undef = false
is_high_impedance HighZ = true

-- how many cells have each value
abbrev pub counts_of : List V4 → CellCounts
counts_of cells = record { zeros = count_by is_zero cells; ones = count_by is_one cells; xs = count_by is_undefined cells; zs = count_by is_high_impedance cells }

-- `gates 2 nodes 2 slots 9 crossings 5`
unfoldable pub plan_line : Summary → List ℕ
plan_line summary =
    codes "gates " ++ decimal summary.gates ++ codes " nodes " ++ decimal summary.nodes ++ codes " slots " ++ decimal summary.slots
    ++ codes " crossings " ++ decimal summary.crossings ++ codes "\n"

-- `zeros 2 ones 2 xs 0 zs 0`
unfoldable pub cells_line : CellCounts → List ℕ
cells_line cells =
    codes "zeros " ++ decimal cells.zeros ++ codes " ones " ++ decimal cells.ones ++ codes " xs " ++ decimal cells.xs
    ++ codes " zs " ++ decimal cells.zs ++ codes "\n"

abbrev pub summary_text : Summary → List ℕ
summary_text summary = plan_line summary ++ cells_line summary.cells
