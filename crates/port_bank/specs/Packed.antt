-- How far a packed port has come, as contracts see it. A packed port is as many plain ports as there are lanes,
-- which go step by step together; nothing but the stimulus of a lane tells them apart.
use Rattle.std.specs.Prelude.{ℕ, ◌<◌}
use Rattle.limits.specs.declared.TheConstants.{LANES}
use Rattle.stim_text.specs.{declared.lanes.Lanes.Lanes, Lanes.lane_stimulus}
use Rattle.image_defs.specs.Ports.{View, PortView}
use Rattle.image_defs.specs.Ports as ports

abbrev pub PackPortView : Type 0
PackPortView = View Lanes

-- the plain port of a lane, counted from 0
abbrev pub lane_port : ℕ → PackPortView → PortView
lane_port l view = ports.lane_port lane_stimulus l view

-- it holds of the plain port of each lane
abbrev pub InEachLane : (PortView → Type 0) → PackPortView → Type 0
InEachLane P view = (l : ℕ) → l < LANES → P (lane_port l view)
