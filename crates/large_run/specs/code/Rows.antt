-- The cells of rows.
use Rattle.std.specs.{Prelude.List, List.flat_map}
use Rattle.logic_four.specs.declared.V4.{V4}
use Rattle.net_defs.specs.declared.trace.CellRow.{CellRow}

-- the cells of all rows, one row after the other
abbrev pub cells_in : List CellRow → List V4
cells_in rows = flat_map (λ row. row.cells) rows
