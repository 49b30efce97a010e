-- Beside specs/Outputs.antt, what only private functions and proofs cite.
use Rattle.std.specs.Prelude.{List}
use Rattle.net_defs.specs.declared.{netlist.Netlist.Netlist, timing.Timing.Timing, stimulus.Stimulus.Stimulus, trace.Rows.Rows}
use Rattle.net_defs.specs.{Reference.IsSimulation, Steps.State}
use Rattle.ref_sim.specs.Runs.{AreCells}

-- the rows are the printed values of the reference simulation
pub record ArePrinted (net : Netlist) (timing : Timing) (stimulus : Stimulus) (rows : Rows) : Type 0 where
  pub states : List State
  pub simulation : IsSimulation net timing stimulus states
  pub cells : AreCells net timing stimulus states rows
