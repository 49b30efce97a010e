-- Lists of planes, lane by lane.
use Rattle.std.specs.Prelude.{ℕ, List, map}
use Rattle.logic_four.specs.declared.V4.{V4}
use Rattle.lane_planes.specs.{Lanes.lane_of, declared.planes.Planes.Planes}

-- the values of a lane of a list of planes
abbrev pub lane_row : ℕ → List Planes → List V4
lane_row k row = map (λ p. lane_of p k) row
