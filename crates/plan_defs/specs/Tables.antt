-- The different tables that a port's nodes use, and when a plan fits a machine.
use Rattle.std.specs.Prelude.{◌≡◌, ℕ, ◌<◌, ◌≤◌, Some, slice_get}
use Rattle.machine_text.specs.{declared.machine.Machine.Machine, declared.machine.Limited.TheVariants.Functions, Limits.limit_at}
use Rattle.node_defs.specs.declared.items.{Feeds.Feeds, Item.TheVariants.Node, NodeNet.NodeNet}
use Rattle.plan_defs.specs.{declared.plan.Homes.Homes, declared.plan.Plan.Plan, Homes.home_of, Lists.Counts}

-- a node at the port uses the table of this number
pub record UsesTable (nodes : NodeNet) (homes : Homes) (port table : ℕ) : Type 0 where
  pub node : ℕ
  pub feeds : Feeds
  pub is : slice_get nodes.items node ≡ Some (Node table feeds)
  pub home : home_of homes node ≡ port

-- so many tables are used at the port; no two tables of well-formed items are equal
abbrev pub UsesTables : NodeNet → Homes → ℕ → ℕ → Type 0
UsesTables nodes homes port count = Counts (UsesTable nodes homes port) count

-- the most slots of a turn
abbrev pub slot_limit : Machine → ℕ
slot_limit machine = machine.slots

-- the most different tables that a logic port may use
abbrev pub table_limit : Machine → ℕ → ℕ
table_limit machine port = limit_at machine Functions port

-- the port's tables are few enough
pub record FitsTables (nodes : NodeNet) (homes : Homes) (machine : Machine) (port : ℕ) : Type 0 where
  pub count : ℕ
  pub uses : UsesTables nodes homes port count
  pub few : count ≤ table_limit machine port

-- the plan's slots and each logic port's tables are within the machine's limits; whether each memory
-- finds a port, and whether the nodes are few enough, is asked of the homes
pub record Fits (nodes : NodeNet) (homes : Homes) (machine : Machine) (plan : Plan) : Type 0 where
  pub slots : plan.needed ≤ slot_limit machine
  pub tables : (port : ℕ) → port < homes.logic → FitsTables nodes homes machine port
