-- The summary of the run of a large netlist.
use Rattle.std.specs.Prelude.{◌≡◌, ℕ, ◌+◌, ◌-◌, List, length}
use Rattle.std.specs.List.{flat_map, range_with_len}
use Rattle.large_run.specs.{declared.summary.Summary.Summary, Large.gate_state, Large.large_netlist, Large.large_stimulus}
use Rattle.large_run.specs.{Summaries.counts_of, Summaries.summary_text, Setting.large_machine, Setting.large_timing}
use Rattle.logic_four.specs.declared.V4.{V4}
use Rattle.net_defs.specs.{declared.netlist.Netlist.Netlist, declared.timing.Timing.Timing, Reference.IsSimulation, Steps.State, Trace.cells_of}
use Rattle.node_defs.specs.{declared.items.NodeNet.NodeNet, Order.IsMapped}
use Rattle.plan_defs.specs.{declared.plan.Homes.Homes, declared.plan.Plan.Plan, Picks.ArePicked, Slots.IsFirstFitPlan}
use Rattle.plan_text.specs.Counted.{AreCrossings}

-- the printed cells of the first so many cycles, one cycle after the other
abbrev pub cells_to : Netlist → Timing → List State → ℕ → List V4
cells_to net timing states cycles = flat_map (λ c. cells_of net timing states (c + 1)) (range_with_len 0 cycles)

-- what is told of so many gates, of their items in a plan with so many crossings, and of these cells
abbrev pub summary_of : ℕ → NodeNet → Plan → ℕ → List V4 → Summary
summary_of gates nodes plan crossings cells = record {
  gates = gates;
  nodes = length nodes.items - nodes.first_node;
  slots = plan.needed;
  crossings = crossings;
  cells = counts_of cells;
}

-- the output is the summary of the run of the large netlist of so many gates over so many cycles: of the
-- first-fit plan of its items at their homes on the machine, and of the reference simulation under the
-- rows that are drawn after the gates
pub record IsSummaryOf (gates cycles : ℕ) (output : List ℕ) : Type 0 where
  pub nodes : NodeNet
  pub items : IsMapped (large_netlist gates) large_timing nodes
  pub homes : Homes
  pub picked : ArePicked nodes large_machine homes
  pub plan : Plan
  pub first_fit : IsFirstFitPlan nodes homes plan
  pub crossings : ℕ
  pub crossed : AreCrossings nodes homes crossings
  pub states : List State
  pub simulation : IsSimulation (large_netlist gates) large_timing (large_stimulus (gate_state gates) cycles) states
  pub summary : output ≡ summary_text (summary_of gates nodes plan crossings (cells_to (large_netlist gates) large_timing states cycles))
