-- The trace: a header with the printed names, and a line for each cycle with the printed values that
-- its last turn has.
use Rattle.std.specs.Prelude.{◌≡◌, ℕ, ◌+◌, ◌*◌, List, [], ◌∷◌, ◌++◌, map, slice_index_or, codes, decimal}
use Rattle.std.specs.List.{flat_map, range_with_len}
use Rattle.logic_four.specs.{declared.V4.V4, Values.value_char}
use Rattle.net_defs.specs.{declared.netlist.Netlist.Netlist, declared.timing.Timing.Timing, declared.stimulus.Stimulus.Stimulus, Time.cycle_count}
use Rattle.net_defs.specs.{Steps.State, Steps.values_of, Reference.IsSimulation, Canonical.name_of}

-- `cycle`, and each printed name after a space
unfoldable pub header_line : Netlist → List ℕ
header_line net = codes "cycle" ++ flat_map (λ s. 32 ∷ name_of net s) net.printed ++ 10 ∷ []

-- the number of the cycle, a space, and a character for each printed signal
unfoldable pub cycle_line : ℕ → List V4 → List ℕ
cycle_line cycle cells = decimal cycle ++ 32 ∷ map value_char cells ++ 10 ∷ []

-- the values printed for a cycle, counted from 1: those of its last turn
abbrev pub cells_of : Netlist → Timing → List State → ℕ → List V4
cells_of net timing states cycle = values_of (row_at (cycle * timing.units)) net.printed where
  row_at : ℕ → List V4
  row_at turn = (slice_index_or states turn (record { row = []; words = [] })).row

-- the trace of these states, up to so many cycles
abbrev pub trace_to : Netlist → Timing → List State → ℕ → List ℕ
trace_to net timing states cycles =
    header_line net ++ flat_map (λ c. cycle_line (c + 1) (cells_of net timing states (c + 1))) (range_with_len 0 cycles)

-- the text is the trace of the reference simulation
pub record IsTrace (net : Netlist) (timing : Timing) (stimulus : Stimulus) (text : List ℕ) : Type 0 where
  pub states : List State
  pub simulation : IsSimulation net timing stimulus states
  pub printed : text ≡ trace_to net timing states (cycle_count stimulus)
