-- A line of a trace in room of a fixed size.
use Rattle.std.specs.Prelude.{ℕ, ◌+◌, ◌≤◌, length}
use Rattle.seen_list.specs.Filling.{Filling}
use Rattle.net_defs.specs.{declared.netlist.Netlist.Netlist, Trace.header_line}

-- the most bytes of the line of a cycle with so many values: seven digits, a space, a character for
-- each value and the line end
abbrev pub row_room : ℕ → ℕ
row_room values = values + 9

-- there is room for each line of a trace of the netlist
pub record HasRoom (net : Netlist) (line : Filling) : Type 0 where
  pub header : length (header_line net) ≤ line.room
  pub rows : row_room (length net.printed) ≤ line.room
