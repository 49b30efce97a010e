-- `plan`: the report of the plan of the design on the machine.
use Rattle.std.specs.Prelude.{◌≡◌, ℕ, Bool, true, false, List, [], ◌++◌, codes, decimal}
use Rattle.machine_text.specs.declared.machine.Machine.{Machine}
use Rattle.net_defs.specs.declared.homes.HomeChoice.{HomeChoice, TheVariants.Plain, TheVariants.Better}
use Rattle.net_defs.specs.declared.{netlist.Netlist.Netlist, timing.Timing.Timing}
use Rattle.node_defs.specs.Order.{IsMapped}
use Rattle.plan_defs.specs.{declared.plan.Homes.Homes, Picks.ArePicked, Slots.IsFirstFitPlan, Tables.Fits}
use Rattle.plan_text.specs.Reports.{IsReport}
use Rattle.yse_compile.specs.{declared.choose.Chosen.Chosen, Chosen.IsUsed}

abbrev pub homes_word : Bool → List ℕ
homes_word false = codes "plain"
homes_word true = codes "better"

-- the crossings of the plain homes and of the better ones, and which of them are used
unfoldable pub crossings_line : ℕ → ℕ → Bool → List ℕ
crossings_line before after better =
    codes "crossings " ++ decimal before ++ codes " better " ++ decimal after ++ codes " used " ++ homes_word better ++ codes "\n"

-- what is told of the homes: nothing, unless better ones were asked for
abbrev pub told_of_homes : HomeChoice → Chosen → List ℕ
told_of_homes Plain chosen = []
told_of_homes Better chosen = crossings_line chosen.before chosen.after chosen.better

-- the output is the report of the first-fit plan, which fits the machine, of the netlist's items at the homes that
-- are used, and then what is told of the homes
pub record IsReportOf (choice : HomeChoice) (net : Netlist) (machine : Machine) (timing : Timing) (output : List ℕ) : Type 0 where
  pub chosen : Chosen
  pub items : IsMapped net timing chosen.compiled.nodes
  pub plain : Homes
  pub picked : ArePicked chosen.compiled.nodes machine plain
  pub used : IsUsed choice chosen.compiled.nodes machine plain chosen
  pub first_fit : IsFirstFitPlan chosen.compiled.nodes chosen.compiled.homes chosen.compiled.plan
  pub fits : Fits chosen.compiled.nodes chosen.compiled.homes machine chosen.compiled.plan
  pub report : List ℕ
  pub is : IsReport net chosen.compiled.nodes chosen.compiled.homes chosen.compiled.plan report
  pub told : output ≡ report ++ told_of_homes choice chosen
