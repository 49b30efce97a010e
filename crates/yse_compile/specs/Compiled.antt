-- What a compiled design is, and what a refusal says.
use Rattle.std.specs.Prelude.{◌≡◌, ℕ, ◌<◌, ◌≤◌, List, length}
use Rattle.logic_four.specs.Values.{value_at}
use Rattle.machine_text.specs.declared.machine.Machine.{Machine}
use Rattle.net_defs.specs.{declared.netlist.Netlist.Netlist, declared.timing.Timing.Timing, declared.stimulus.Stimulus.Stimulus, Time.cycle_count, Steps.State}
use Rattle.net_defs.specs.{Reference.IsSimulation, Trace.cells_of}
use Rattle.node_defs.specs.Order.{IsMapped}
use Rattle.plan_defs.specs.{Picks.ArePicked, Slots.IsFirstFitPlan, Switches.IsSwitch, Tables.Fits}
use Rattle.image_defs.specs.{declared.image.Image.Image, Frames.shown}
use Rattle.image_build.specs.Built.{IsBuilt}
use Rattle.home_pick.specs.declared.pick.HomeNo.{HomeNo, TheVariants.Bits as NoBits, TheVariants.Memory as NoRoom, TheVariants.Nodes as ManyNodes}
use Rattle.slot_plan.specs.declared.fit.PlanNo.{PlanNo, TheVariants.Slots as ManySlots, TheVariants.Functions as ManyFunctions, TheVariants.Memory as NoMemory}
use Rattle.yse_compile.specs.declared.compiler.CompNo.TheVariants.{Loop, Bits, Slots, Functions, Memory, Nodes}
use Rattle.yse_compile.specs.Designs.{IsAcyclic, HasLoop, LacksBits, LacksNodes, LacksSlots, LacksFunctions}
use Rattle.yse_compile.specs.declared.compiler.{Compiled.Compiled, CompNo.CompNo}

-- these are the netlist's items, their homes on the machine, their first-fit plan, which fits, its switch
-- and its image
pub record IsCompiled (net : Netlist) (machine : Machine) (timing : Timing) (compiled : Compiled) : Type 0 where
  pub acyclic : IsAcyclic net timing
  pub items : IsMapped net timing compiled.nodes
  pub picked : ArePicked compiled.nodes machine compiled.homes
  pub first_fit : IsFirstFitPlan compiled.nodes compiled.homes compiled.plan
  pub fits : Fits compiled.nodes compiled.homes machine compiled.plan
  pub routed : IsSwitch compiled.nodes compiled.homes compiled.plan.slots compiled.switch
  pub built : IsBuilt compiled.nodes compiled.homes compiled.plan compiled.switch timing compiled.image

-- the image shows the cells of the reference simulation: those of each cycle, counted from 1, and each
-- printed name
pub record ShowsReference (net : Netlist) (timing : Timing) (stimulus : Stimulus) (image : Image) : Type 0 where
  pub states : List State
  pub simulation : IsSimulation net timing stimulus states
  pub cells : (c j : ℕ) → c ≤ cycle_count stimulus → j < length net.printed → shown image stimulus c j ≡ value_at (cells_of net timing states c) j

-- what a refusal says is so
abbrev pub IsRight : Netlist → Machine → Timing → CompNo → Type 0
IsRight net machine timing (Loop members) = HasLoop net timing members
IsRight net machine timing (Bits block needed left) = LacksBits net machine timing block needed left
IsRight net machine timing (Slots needed limit) = LacksSlots net machine timing needed limit
IsRight net machine timing (Functions port needed limit) = LacksFunctions net machine timing port needed limit
IsRight net machine timing Memory = Unit {0}
IsRight net machine timing (Nodes needed limit) = LacksNodes net machine timing needed limit

-- the refusal where there are no homes, and where there is no plan
abbrev pub of_homes : HomeNo → CompNo
of_homes (NoBits block needed left) = Bits block needed left
of_homes NoRoom = Memory
of_homes (ManyNodes needed limit) = Nodes needed limit

abbrev pub of_plan : PlanNo → CompNo
of_plan (ManySlots needed limit) = Slots needed limit
of_plan (ManyFunctions port needed limit) = Functions port needed limit
of_plan NoMemory = Memory

-- the refusal says that the machine is too small for the design
abbrev pub IsOverfull : CompNo → Type 0
IsOverfull (Loop members) = ⊥
IsOverfull (Bits block needed left) = Unit {0}
IsOverfull (Slots needed limit) = Unit {0}
IsOverfull (Functions port needed limit) = Unit {0}
IsOverfull Memory = ⊥
IsOverfull (Nodes needed limit) = Unit {0}
