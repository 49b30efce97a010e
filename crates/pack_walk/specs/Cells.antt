-- The cells that are printed, in each lane.
use Rattle.std.specs.Prelude.{ℕ, List, map}
use Rattle.logic_four.specs.declared.V4.{V4}
use Rattle.lane_planes.specs.{declared.planes.Planes.Planes, Lanes.lane_of}

-- the cells of a lane
abbrev pub in_lane : ℕ → List Planes → List V4
in_lane l cells = map (λ p. lane_of p l) cells
