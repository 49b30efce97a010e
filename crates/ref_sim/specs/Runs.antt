-- A run over all cycles, and what it answers.
use Rattle.std.specs.Prelude.{◌≡◌, ℕ, ◌+◌, List, length, Some, slice_get}
use Rattle.net_defs.specs.declared.{netlist.Netlist.Netlist, timing.Timing.Timing, stimulus.Stimulus.Stimulus, trace.CellRow.CellRow, trace.Rows.Rows}
use Rattle.net_defs.specs.{Time.cycle_count, Steps.State, Reference.IsSimulation, Trace.cells_of}

-- these are the printed values of each cycle of these states
pub record AreCells (net : Netlist) (timing : Timing) (stimulus : Stimulus) (states : List State) (rows : Rows) : Type 0 where
  pub cycles : length rows.rows ≡ cycle_count stimulus
  pub cells : (c : ℕ) (row : CellRow) → slice_get rows.rows c ≡ Some row → row.cells ≡ cells_of net timing states (c + 1)

-- these are the printed values of each cycle of every simulation
abbrev pub AreRowsOf : Netlist → Timing → Stimulus → Rows → Type 0
AreRowsOf net timing stimulus rows =
    (states : List State) → IsSimulation net timing stimulus states → AreCells net timing stimulus states rows
