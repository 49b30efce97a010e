-- The rows of a run.
use Rattle.std.specs.Prelude.{List, Some, length, slice_get, ℕ, ◌+◌, ◌<◌, ◌≡◌}
use Rattle.image_defs.specs.{Frames.shown, declared.image.Image.Image}
use Rattle.logic_four.specs.Values.{value_at}
use Rattle.net_defs.specs.declared.{stimulus.Stimulus.Stimulus, trace.CellRow.CellRow}
use Rattle.port_host.specs.Rows.{printed_sources}

-- the rows of the first cycles, one for each, with the cells that the image shows
pub record AreShown (image : Image) (stimulus : Stimulus) (cycles : ℕ) (rows : List CellRow) : Type 0 where
  pub cycles_are : length rows ≡ cycles
  pub width : (c : ℕ) (row : CellRow) → slice_get rows c ≡ Some row → length row.cells ≡ length (printed_sources image)
  pub cells : (c j : ℕ) (row : CellRow) → slice_get rows c ≡ Some row → j < length (printed_sources image) → value_at row.cells j ≡ shown image stimulus (c + 1) j
