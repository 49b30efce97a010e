-- The lines of a run.
use Rattle.std.specs.Prelude.{List, ℕ, ◌+◌, ◌++◌, ◌-◌, length, map}
use Rattle.std.specs.List.{flat_map, range_with_len}
use Rattle.image_defs.specs.{Frames.shown, declared.image.Image.Image}
use Rattle.logic_four.specs.declared.V4.{V4}
use Rattle.net_defs.specs.{declared.netlist.Netlist.Netlist, declared.stimulus.Stimulus.Stimulus, Time.cycle_count, Trace.cycle_line, Trace.header_line}
use Rattle.port_host.specs.Rows.{printed_sources}

-- the cells that the image shows for a cycle, counted from 1
abbrev pub cells_shown : Image → Stimulus → ℕ → List V4
cells_shown image stimulus cycle = map (λ j. shown image stimulus cycle j) (range_with_len 0 (length (printed_sources image)))

-- the lines of the cycles after the first `from`, up to the one numbered `to`
abbrev pub lines_between : (ℕ → List V4) → ℕ → ℕ → List ℕ
lines_between cells from to = flat_map (λ c. cycle_line (c + 1) (cells (c + 1))) (range_with_len from (to - from))

-- the header, and the lines of so many cycles
abbrev pub written_to : Netlist → Image → Stimulus → ℕ → List ℕ
written_to net image stimulus cycles = header_line net ++ lines_between (cells_shown image stimulus) 0 cycles

-- the header, and the lines of all cycles
abbrev pub bytes_of_run : Netlist → Image → Stimulus → List ℕ
bytes_of_run net image stimulus = written_to net image stimulus (cycle_count stimulus)
