-- Beside specs/Shown.antt, what only private functions and proofs cite.
use Rattle.std.specs.Prelude.{List, Some, length, slice_get, ℕ, ◌+◌, ◌<◌, ◌≡◌}
use Rattle.image_defs.specs.{Frames.shown, declared.image.Image.Image}
use Rattle.logic_four.specs.Values.{value_at}
use Rattle.net_defs.specs.declared.{stimulus.Stimulus.Stimulus, trace.CellRow.CellRow}
use Rattle.port_host.specs.Rows.{printed_sources}

-- one row for each of so many cycles, of so many cells
pub record AreWide (cycles cells : ℕ) (rows : List CellRow) : Type 0 where
  pub cycles_are : length rows ≡ cycles
  pub width : (c : ℕ) (row : CellRow) → slice_get rows c ≡ Some row → length row.cells ≡ cells

-- the first n of them have what the image shows
pub record AreFilled (image : Image) (stimulus : Stimulus) (n : ℕ) (rows : List CellRow) : Type 0 where
  pub cells : (c j : ℕ) (row : CellRow) → c < n → slice_get rows c ≡ Some row → j < length (printed_sources image) → value_at row.cells j ≡ shown image stimulus (c + 1) j
