-- The lines of the lanes of a run.
use Rattle.std.specs.Prelude.{List, ℕ, ◌+◌, ◌++◌}
use Rattle.std.specs.List.{enumerate_from, flat_map}
use Rattle.machine_run.specs.Lines.{bytes_of_run}
use Rattle.image_defs.specs.declared.image.Image.{Image}
use Rattle.trace_text.specs.Lines.{lane_line}
use Rattle.net_defs.specs.declared.{netlist.Netlist.Netlist, stimulus.Stimulus.Stimulus}
use Rattle.stim_text.specs.declared.lanes.Lanes.{Lanes}

-- the line of a lane, and what a run of the lane's own stimulus writes: the header, and the lines of its own cycles
abbrev pub bytes_of_lane : Netlist → Image → ℕ → Stimulus → List ℕ
bytes_of_lane net image lane stimulus = lane_line lane ++ bytes_of_run net image stimulus

-- those of all lanes, counted from 1
abbrev pub bytes_of_lanes : Netlist → Image → Lanes → List ℕ
bytes_of_lanes net image lanes = flat_map (λ p. bytes_of_lane net image (p.0 + 1) p.1) (enumerate_from 0 lanes.lanes)
