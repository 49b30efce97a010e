-- Which homes a compiled design has, and when a design fits a machine by a choice of homes.
use Rattle.std.specs.Prelude.{◌≡◌, ◌⊎◌, length, true, false}
use Rattle.machine_text.specs.declared.machine.Machine.{Machine}
use Rattle.net_defs.specs.declared.homes.HomeChoice.{HomeChoice, TheVariants.Plain, TheVariants.Better}
use Rattle.net_defs.specs.declared.{netlist.Netlist.Netlist, timing.Timing.Timing}
use Rattle.node_defs.specs.{declared.items.NodeNet.NodeNet, Order.IsMapped}
use Rattle.plan_defs.specs.{declared.plan.Homes.Homes, declared.plan.Plan.Plan, Homes.AreHomes, Picks.ArePicked, Picks.AreHoused, Slots.IsFirstFitPlan}
use Rattle.plan_defs.specs.{Switches.IsSwitch, Tables.Fits}
use Rattle.home_pick.specs.{Better.IsBetter, Crossings.crossings}
use Rattle.image_build.specs.Built.{IsBuilt}
use Rattle.yse_compile.specs.{declared.compiler.Compiled.Compiled, declared.choose.Chosen.Chosen, Designs.IsAcyclic, Designs.DesignFits}

-- ---- designs, whichever homes they have

-- these are the netlist's items, homes of them on the machine, their first-fit plan, which fits, its switch
-- and its image
pub record IsDesign (net : Netlist) (machine : Machine) (timing : Timing) (compiled : Compiled) : Type 0 where
  pub acyclic : IsAcyclic net timing
  pub items : IsMapped net timing compiled.nodes
  pub logic : compiled.homes.logic ≡ machine.logic
  pub array : compiled.homes.array ≡ machine.array
  pub homes : AreHomes compiled.nodes compiled.homes
  pub memories : AreHoused compiled.nodes machine compiled.homes.blocks (length compiled.nodes.blocks)
  pub first_fit : IsFirstFitPlan compiled.nodes compiled.homes compiled.plan
  pub fits : Fits compiled.nodes compiled.homes machine compiled.plan
  pub routed : IsSwitch compiled.nodes compiled.homes compiled.plan.slots compiled.switch
  pub built : IsBuilt compiled.nodes compiled.homes compiled.plan compiled.switch timing compiled.image

-- items at these homes have a first-fit plan of few enough slots and tables
pub record HomesFit (nodes : NodeNet) (machine : Machine) (homes : Homes) : Type 0 where
  pub plan : Plan
  pub first_fit : IsFirstFitPlan nodes homes plan
  pub fits : Fits nodes homes machine plan

-- ---- the homes that are used

-- the plain homes are used, and both counts are of them
pub record UsesPlain (nodes : NodeNet) (plain : Homes) (chosen : Chosen) : Type 0 where
  pub homes : chosen.compiled.homes ≡ plain
  pub plainly : chosen.better ≡ false
  pub before : chosen.before ≡ crossings nodes plain
  pub after : chosen.after ≡ crossings nodes plain

-- the better homes are used exactly where they fit, and the counts are of the plain and the better homes
-- whichever are used
pub record UsesBetter (nodes : NodeNet) (machine : Machine) (plain : Homes) (chosen : Chosen) : Type 0 where
  pub best : Homes
  pub is_better : IsBetter nodes machine plain best
  pub before : chosen.before ≡ crossings nodes plain
  pub after : chosen.after ≡ crossings nodes best
  pub used : ((chosen.better ≡ true) × (chosen.compiled.homes ≡ best))
      ⊎ ((chosen.better ≡ false) × (chosen.compiled.homes ≡ plain) × (HomesFit nodes machine best → ⊥))

abbrev pub IsUsed : HomeChoice → NodeNet → Machine → Homes → Chosen → Type 0
IsUsed Plain nodes machine plain chosen = UsesPlain nodes plain chosen
IsUsed Better nodes machine plain chosen = UsesBetter nodes machine plain chosen

-- the design has the homes that the choice says, of those that are picked for its items and better ones
pub record IsChosen (net : Netlist) (machine : Machine) (timing : Timing) (choice : HomeChoice) (chosen : Chosen) : Type 0 where
  pub plain : Homes
  pub picked : ArePicked chosen.compiled.nodes machine plain
  pub design : IsDesign net machine timing chosen.compiled
  pub used : IsUsed choice chosen.compiled.nodes machine plain chosen

-- ---- whether a design fits

-- the design fits the machine at the plain homes of its items or at better ones
pub record FitsEither (net : Netlist) (machine : Machine) (timing : Timing) : Type 0 where
  pub acyclic : IsAcyclic net timing
  pub nodes : NodeNet
  pub items : IsMapped net timing nodes
  pub plain : Homes
  pub picked : ArePicked nodes machine plain
  pub fit : HomesFit nodes machine plain ⊎ ((best : Homes) × IsBetter nodes machine plain best × HomesFit nodes machine best)

-- the design fits the machine by the choice of homes
abbrev pub FitsBy : HomeChoice → Netlist → Machine → Timing → Type 0
FitsBy Plain net machine timing = DesignFits net machine timing
FitsBy Better net machine timing = FitsEither net machine timing
