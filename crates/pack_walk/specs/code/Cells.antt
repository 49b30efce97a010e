-- Beside specs/Cells.antt, what only private functions and proofs cite.
use Rattle.std.specs.Prelude.{◌≡◌, ℕ, ◌<◌, List, length}
use Rattle.limits.specs.declared.TheConstants.{LANES}
use Rattle.lane_planes.specs.declared.planes.Planes.{Planes}
use Rattle.image_defs.specs.declared.image.Source.{Source}
use Rattle.port_host.specs.code.Rows.{HasPrinted}
use Rattle.port_bank.specs.Packed.{PackPortView, lane_port}
use Rattle.pack_walk.specs.Cells.{in_lane}

-- in each lane what the first n sources have stands in the cells from this place on; what is before stays
pub record HasPrintedAll (view : PackPortView) (sources : List Source) (n start : ℕ) (old new : List Planes) : Type 0 where
  pub long : length new ≡ length old
  pub lanes : (l : ℕ) → l < LANES → HasPrinted (lane_port l view) sources n start (in_lane l old) (in_lane l new)
