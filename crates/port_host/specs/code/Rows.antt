-- Beside specs/Rows.antt, what only private functions and proofs cite.
use Rattle.std.specs.Prelude.{◌≡◌, ℕ, ◌+◌, ◌<◌, List, length, Option, Some, None, slice_get}
use Rattle.logic_four.specs.{declared.V4.V4, Values.value_at}
use Rattle.net_defs.specs.declared.stimulus.StimRow.{StimRow}
use Rattle.image_defs.specs.{declared.image.Source.Source, Ports.PortView}
use Rattle.port_bank.specs.Reads.{IsTaken}

-- for how many cycles a row serves, and its values; there are none where there is no row
abbrev pub times_in : Option StimRow → ℕ
times_in None = 0
times_in (Some row) = row.times

-- what the first n sources have stands in the cells from this place on; what is before stays
pub record HasPrinted (view : PortView) (sources : List Source) (n start : ℕ) (old new : List V4) : Type 0 where
  pub long : length new ≡ length old
  pub printed : (j : ℕ) (source : Source) → j < n → slice_get sources j ≡ Some source → IsTaken view source (value_at new (start + j))
  pub before : (k : ℕ) → k < start → value_at new k ≡ value_at old k
