-- Why there is no plan.
use Rattle.std.specs.Prelude.{◌≡◌, ℕ, ◌<◌, ◌≤◌}
use Rattle.machine_text.specs.declared.machine.Machine.{Machine}
use Rattle.node_defs.specs.declared.items.NodeNet.{NodeNet}
use Rattle.plan_defs.specs.Tables.{UsesTables, FitsTables, slot_limit, table_limit}
use Rattle.plan_defs.specs.{declared.plan.Homes.Homes, declared.plan.Plan.Plan, Slots.IsFirstFitPlan}
use Rattle.slot_plan.specs.declared.fit.PlanNo.{PlanNo, TheVariants.Slots, TheVariants.Functions, TheVariants.Memory}

-- the first-fit plan wants more slots than a turn has
pub record IsLong (nodes : NodeNet) (homes : Homes) (machine : Machine) (needed limit : ℕ) : Type 0 where
  pub plan : Plan
  pub is : IsFirstFitPlan nodes homes plan
  pub needs : plan.needed ≡ needed
  pub most : limit ≡ slot_limit machine
  pub past : limit < needed

-- the slots suffice, and the port is the first whose nodes use too many different tables
pub record IsCrowded (nodes : NodeNet) (homes : Homes) (machine : Machine) (port needed limit : ℕ) : Type 0 where
  pub plan : Plan
  pub is : IsFirstFitPlan nodes homes plan
  pub short : plan.needed ≤ slot_limit machine
  pub logic : port < homes.logic
  pub uses : UsesTables nodes homes port needed
  pub most : limit ≡ table_limit machine port
  pub past : limit < needed
  pub before : (lower : ℕ) → lower < port → FitsTables nodes homes machine lower

-- what a refusal says is so
abbrev pub IsRight : NodeNet → Homes → Machine → PlanNo → Type 0
IsRight nodes homes machine (Slots needed limit) = IsLong nodes homes machine needed limit
IsRight nodes homes machine (Functions port needed limit) = IsCrowded nodes homes machine port needed limit
IsRight nodes homes machine Memory = Unit {0}
