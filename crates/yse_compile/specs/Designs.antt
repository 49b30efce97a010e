-- When a design fits a machine, and why it doesn't.
use Rattle.std.specs.Prelude.{◌≢◌, ℕ, List}
use Rattle.machine_text.specs.declared.machine.Machine.{Machine}
use Rattle.net_defs.specs.{declared.netlist.Netlist.Netlist, declared.timing.Timing.Timing, Loops.IsCircle, Loops.IsLoop}
use Rattle.net_defs.specs.declared.timing.Mode.TheVariants as mode
use Rattle.node_defs.specs.{declared.items.NodeNet.NodeNet, Order.IsMapped}
use Rattle.plan_defs.specs.{declared.plan.Homes.Homes, declared.plan.Plan.Plan, Picks.ArePicked, Picks.FindsNoPort, Picks.HasTooManyNodes, Slots.IsFirstFitPlan}
use Rattle.plan_defs.specs.Tables.{Fits}
use Rattle.slot_plan.specs.Refusals.{IsLong, IsCrowded}

-- there is no loop; in unit delay there never is one
abbrev pub IsAcyclic : Netlist → Timing → Type 0
IsAcyclic net timing = (members : List ℕ) → IsCircle net timing members → ⊥

-- the design fits the machine: without a loop its items have homes, every memory among them, and a
-- first-fit plan of few enough slots and tables
pub record DesignFits (net : Netlist) (machine : Machine) (timing : Timing) : Type 0 where
  pub acyclic : IsAcyclic net timing
  pub nodes : NodeNet
  pub items : IsMapped net timing nodes
  pub homes : Homes
  pub picked : ArePicked nodes machine homes
  pub plan : Plan
  pub first_fit : IsFirstFitPlan nodes homes plan
  pub fits : Fits nodes homes machine plan

-- ---- refusals, each after those before it

-- there is this loop, and so the mode is not unit delay
pub record HasLoop (net : Netlist) (timing : Timing) (members : List ℕ) : Type 0 where
  pub not_in_unit_delay : timing.mode ≢ mode.Unit
  pub is : IsLoop net timing members

-- without a loop, this memory is the first that finds no port
pub record LacksBits (net : Netlist) (machine : Machine) (timing : Timing) (block needed left : ℕ) : Type 0 where
  pub acyclic : IsAcyclic net timing
  pub nodes : NodeNet
  pub items : IsMapped net timing nodes
  pub none : FindsNoPort nodes machine block needed left

-- each memory has a port, and the nodes are more than the logic ports hold together
pub record LacksNodes (net : Netlist) (machine : Machine) (timing : Timing) (needed limit : ℕ) : Type 0 where
  pub acyclic : IsAcyclic net timing
  pub nodes : NodeNet
  pub items : IsMapped net timing nodes
  pub many : HasTooManyNodes nodes machine needed limit

-- the items have homes, and the plan needs more slots than a turn has
pub record LacksSlots (net : Netlist) (machine : Machine) (timing : Timing) (needed limit : ℕ) : Type 0 where
  pub acyclic : IsAcyclic net timing
  pub nodes : NodeNet
  pub items : IsMapped net timing nodes
  pub homes : Homes
  pub picked : ArePicked nodes machine homes
  pub long : IsLong nodes homes machine needed limit

-- the slots suffice, and this port is the first whose nodes use more different tables than its limit
pub record LacksFunctions (net : Netlist) (machine : Machine) (timing : Timing) (port needed limit : ℕ) : Type 0 where
  pub acyclic : IsAcyclic net timing
  pub nodes : NodeNet
  pub items : IsMapped net timing nodes
  pub homes : Homes
  pub picked : ArePicked nodes machine homes
  pub crowded : IsCrowded nodes homes machine port needed limit
