-- The report of a plan.
use Rattle.std.specs.Prelude.{◌≡◌, ℕ, List}
use Rattle.net_defs.specs.declared.netlist.Netlist.{Netlist}
use Rattle.node_defs.specs.declared.items.NodeNet.{NodeNet}
use Rattle.plan_defs.specs.declared.plan.{Homes.Homes, Plan.Plan}
use Rattle.plan_text.specs.{declared.figures.Figures.Figures, Counted.AreFigures, Lines.report_text}

-- the text is the report of the plan of these items of the netlist at these homes
pub record IsReport (net : Netlist) (nodes : NodeNet) (homes : Homes) (plan : Plan) (text : List ℕ) : Type 0 where
  pub figures : Figures
  pub are : AreFigures nodes homes plan.slots figures
  pub is : text ≡ report_text net nodes homes plan figures
