use Rattle.std.specs.Prelude.{◌≡◌, ℕ, length, Some, slice_get}
use Rattle.net_defs.specs.declared.stimulus.Stimulus.{Stimulus}
use Rattle.port_host.specs.{declared.cursor.RowCursor.RowCursor, Rows.IsAt}
use Rattle.pack_walk.proofs.rows.first_rows.Given as goal

abbrev pub invariant-lanes : goal.invariant-lanes
invariant-lanes l = record {
  count : length l.cursors ≡ l.stim-index;
  each : (i : ℕ) (stimulus : Stimulus) (cursor : RowCursor) → slice_get l.lanes i ≡ Some stimulus → slice_get l.cursors i ≡ Some cursor → IsAt stimulus 0 cursor;
}
