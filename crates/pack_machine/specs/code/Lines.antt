-- Beside specs/Lines.antt, what only private functions and proofs cite.
use Rattle.std.specs.Prelude.{List, ℕ, length, ◌≡◌}
use Rattle.machine_run.specs.Lines.{cells_shown}
use Rattle.image_defs.specs.declared.image.Image.{Image}
use Rattle.trace_text.specs.{Lines.HasMarkRoom, Line.HasRoom}
use Rattle.logic_four.specs.declared.V4.{V4}
use Rattle.net_defs.specs.declared.netlist.Netlist.{Netlist}
use Rattle.port_host.specs.Rows.{printed_sources}
use Rattle.stim_text.specs.Lanes.{own_stimulus}
use Rattle.pack_machine.specs.declared.lines.LaneLines.{LaneLines}
use Rattle.slot_words.specs.packed.Passes.{PackPassView}

-- there is room for the line of any lane, for each line of a trace of the netlist, and for the cells of a row, which are
-- those of the printed names
pub record HasLineRoom (net : Netlist) (image : Image) (room : LaneLines) : Type 0 where
  pub mark : HasMarkRoom room.mark
  pub line : HasRoom net room.line
  pub row : length room.row ≡ length (printed_sources image)
  pub printed : length net.printed ≡ length (printed_sources image)

-- the cells that the image of a host shows for a cycle of a lane's own stimulus; lanes are counted from 0, cycles from 1
abbrev pub cells_in_lane : PackPassView → ℕ → ℕ → List V4
cells_in_lane host lane = cells_shown host.image (own_stimulus host.image.columns host.feed lane)
