-- What the packed host keeps: what the inputs have in this cycle, and in each lane what a plain host keeps that has
-- room for all rows.
use Rattle.std.specs.Prelude.{◌≡◌, ℕ, ◌<◌}
use Rattle.limits.specs.declared.TheConstants.{LANES}
use Rattle.stim_text.specs.Lanes.{lane_stimulus, longest, AreLanes}
use Rattle.port_host.specs.declared.cursor.RowCursor.{RowCursor}
use Rattle.port_host.specs.declared.port.HostPort.TheInside as plain
use Rattle.port_host.specs.Kept as plain_host
use Rattle.port_bank.specs.Packed.{PackPortView, lane_port}
use Rattle.pack_walk.specs.{Cells.in_lane, declared.port.PackHost.TheInside.Inside}

abbrev pub view_of : Inside → PackPortView
view_of a = a.bank

-- the plain host of a lane, whose cursor stands somewhere
abbrev pub lane_host : ℕ → RowCursor → Inside → plain.Inside
lane_host l cursor a = record {
  bank = lane_port l a.bank;
  stim = record { ref_ptr = a.inputs.ref_ptr; now = lane_stimulus a.bank.image.columns a.bank.stimulus l };
  units = a.units;
  inputs = a.inputs;
  printed = a.printed;
  progress = record { rows = a.feed.cycles; unit = a.unit; cursor = cursor };
  window = longest a.bank.stimulus;
  first_row = 0;
  cells = in_lane l a.cells;
}

pub record IsReady (a : Inside) : Type 0 where
  pub lanes : AreLanes a.bank.image.columns a.bank.stimulus
  pub feed_lanes : a.feed.lanes ≡ a.bank.stimulus
  pub feed_columns : a.feed.columns ≡ a.bank.image.columns
  pub each : (l : ℕ) → l < LANES → (cursor : RowCursor) × plain_host.IsReady (lane_host l cursor a)
