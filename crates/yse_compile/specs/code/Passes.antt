-- What the passes make, and why better homes do not fit.
use Rattle.std.specs.Prelude.{◌≡◌, ◌≤◌, length}
use Rattle.limits.specs.declared.TheConstants.{MAX_SLOTS}
use Rattle.machine_text.specs.declared.machine.Machine.{Machine}
use Rattle.net_defs.specs.declared.homes.HomeChoice.{HomeChoice, TheVariants.Plain, TheVariants.Better}
use Rattle.node_defs.specs.{declared.items.NodeNet.NodeNet, WellFormed.IsWellFormed}
use Rattle.plan_defs.specs.{declared.plan.Homes.Homes, Homes.AreHomes, Picks.ArePicked, Picks.AreHoused as HaveBlockPorts, Slots.IsFirstFitPlan, Tables.Fits}
use Rattle.home_pick.specs.Better.{IsBetter}
use Rattle.image_defs.specs.declared.image.Image.{Image}
use Rattle.yse_compile.specs.declared.{choose.Chosen.Chosen, choose.Fitted.Fitted, compiler.Compiled.Compiled, passes.Housed.Housed, passes.Planned.Planned}
use Rattle.yse_compile.specs.{declared.passes.Routed.Routed, Chosen.HomesFit, Chosen.IsUsed}

-- homes of these items on the machine, the memories at the first array ports with room
pub record AreHomesOn (nodes : NodeNet) (machine : Machine) (homes : Homes) : Type 0 where
  pub logic : homes.logic ≡ machine.logic
  pub array : homes.array ≡ machine.array
  pub are : AreHomes nodes homes
  pub memories : HaveBlockPorts nodes machine homes.blocks (length nodes.blocks)

-- items at the homes that are picked for them
pub record AreHoused (machine : Machine) (housed : Housed) : Type 0 where
  pub formed : IsWellFormed housed.nodes
  pub picked : ArePicked housed.nodes machine housed.homes
  pub are : AreHomes housed.nodes housed.homes

-- items at their homes in the slots of their first-fit plan
pub record IsPlanned (planned : Planned) : Type 0 where
  pub formed : IsWellFormed planned.housed.nodes
  pub are : AreHomes planned.housed.nodes planned.housed.homes
  pub first_fit : IsFirstFitPlan planned.housed.nodes planned.housed.homes planned.plan
  pub short : planned.plan.needed ≤ MAX_SLOTS

-- what is planned, with its switch and this image
abbrev pub compiled_of : Routed → Image → Compiled
compiled_of routed image = record {
  nodes = routed.planned.housed.nodes;
  homes = routed.planned.housed.homes;
  plan = routed.planned.plan;
  switch = routed.switch;
  image = image;
}

-- what is built at these homes, with what is told of them
abbrev pub chosen_of : Fitted → Compiled → Chosen
chosen_of fitted compiled = record { compiled = compiled; before = fitted.counts.before; after = fitted.counts.after; better = fitted.counts.better }

-- the homes of the choice, of these plain ones and better ones, which fit by their plan
pub record IsFitted (choice : HomeChoice) (machine : Machine) (plain : Housed) (fitted : Fitted) : Type 0 where
  pub same : fitted.planned.housed.nodes ≡ plain.nodes
  pub planned : IsPlanned fitted.planned
  pub on : AreHomesOn plain.nodes machine fitted.planned.housed.homes
  pub fits : Fits plain.nodes fitted.planned.housed.homes machine fitted.planned.plan
  pub used : (compiled : Compiled) → compiled.homes ≡ fitted.planned.housed.homes → IsUsed choice plain.nodes machine plain.homes (chosen_of fitted compiled)

-- where better homes are asked, these do not fit
abbrev pub IsBestUnfit : HomeChoice → NodeNet → Machine → Homes → Type 0
IsBestUnfit Plain nodes machine plain = Unit {0}
IsBestUnfit Better nodes machine plain = (best : Homes) × IsBetter nodes machine plain best × (HomesFit nodes machine best → ⊥)
