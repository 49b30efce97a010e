-- Items in a plan, and what is known while their work is laid out.
use Rattle.std.specs.Prelude.{◌≤◌}
use Rattle.limits.specs.declared.TheConstants.{MAX_SLOTS}
use Rattle.node_defs.specs.{declared.items.NodeNet.NodeNet, WellFormed.IsWellFormed}
use Rattle.plan_defs.specs.{declared.plan.Homes.Homes, declared.plan.Plan.Plan, Homes.AreHomes, Slots.IsFirstFitPlan}

-- well-formed items at their homes, in their first-fit plan
pub record IsPlanned (nodes : NodeNet) (homes : Homes) (plan : Plan) : Type 0 where
  pub formed : IsWellFormed nodes
  pub housed : AreHomes nodes homes
  pub first_fit : IsFirstFitPlan nodes homes plan
  pub few : plan.needed ≤ MAX_SLOTS
