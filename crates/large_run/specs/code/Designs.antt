-- What is made of a large netlist before its run.
use Rattle.std.specs.Prelude.{◌≡◌, ℕ, []}
use Rattle.large_run.specs.{declared.summary.Summary.Summary, Large.gate_state, Large.large_netlist, Large.large_stimulus, declared.design.Design.Design}
use Rattle.large_run.specs.{Runs.summary_of, Setting.large_machine, Setting.large_timing}
use Rattle.net_defs.specs.{declared.stimulus.Stimulus.Stimulus, Time.cycle_count, Valid.IsValidStimulus}
use Rattle.plan_text.specs.Counted.{AreCrossings}
use Rattle.yse_compile.specs.{declared.compiler.Compiled.Compiled, Compiled.IsCompiled, Compiled.ShowsReference}

-- the summary of so many gates and of this plan, before any cell is counted
pub record AreFigures (gates : ℕ) (compiled : Compiled) (summary : Summary) : Type 0 where
  pub crossings : ℕ
  pub crossed : AreCrossings compiled.nodes compiled.homes crossings
  pub is : summary ≡ summary_of gates compiled.nodes compiled.plan crossings []

-- the large netlist of so many gates, compiled for its machine, its rows of so many cycles, and what its
-- summary tells of the plan
pub record IsDesign (gates cycles : ℕ) (design : Design) : Type 0 where
  pub compiled : IsCompiled (large_netlist gates) large_machine large_timing design.compiled
  pub shown : (stimulus : Stimulus) → ShowsReference (large_netlist gates) large_timing stimulus design.compiled.image
  pub figures : AreFigures gates design.compiled design.figures
  pub rows : design.rows ≡ large_stimulus (gate_state gates) cycles
  pub rows_valid : IsValidStimulus design.rows
  pub rows_long : cycle_count design.rows ≡ cycles
