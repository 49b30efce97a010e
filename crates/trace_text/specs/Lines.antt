-- The lines of what a run kept, and the line of a lane.
use Rattle.std.specs.Prelude.{◌≡◌, ◌≤◌, ℕ, ◌+◌, List, ◌++◌, length, Some, slice_get, codes, decimal}
use Rattle.std.specs.List.{enumerate_from, flat_map}
use Rattle.limits.specs.declared.TheConstants.{MAX_CYCLES}
use Rattle.net_defs.specs.{declared.netlist.Netlist.Netlist, declared.trace.CellRow.CellRow, Trace.header_line, Trace.cycle_line}
use Rattle.seen_list.specs.Filling.{Filling}
use Rattle.trace_text.specs.Line.{HasRoom}

-- ---- a trace

-- the lines of cycles with these printed values, counted from 1
abbrev pub cycle_lines : List CellRow → List ℕ
cycle_lines rows = flat_map (λ p. cycle_line (p.0 + 1) p.1.cells) (enumerate_from 0 rows)

-- the header and the lines of the rows
abbrev pub trace_text : Netlist → List CellRow → List ℕ
trace_text net rows = header_line net ++ cycle_lines rows

-- the rows fit the line's room
pub record FitsLine (net : Netlist) (rows : List CellRow) (line : Filling) : Type 0 where
  pub room : HasRoom net line
  pub cells : (c : ℕ) (row : CellRow) → slice_get rows c ≡ Some row → length row.cells ≡ length net.printed
  pub cycles : length rows ≤ MAX_CYCLES

-- ---- lanes

-- `lane`, and the number of the lane, counted from 1
unfoldable pub lane_line : ℕ → List ℕ
lane_line lane = codes "lane " ++ decimal lane ++ codes "\n"

-- there is room for the line of any lane
pub record HasMarkRoom (mark : Filling) : Type 0 where
  pub room : 16 ≤ mark.room
