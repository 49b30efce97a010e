-- Beside specs/UsedTables.antt, what only private functions and proofs cite.
use Rattle.std.specs.Prelude.{◌≡◌, ◌↔◌, ℕ, ◌+◌, ◌*◌, ◌<◌, ◌≤◌, List, length}
use Rattle.plan_defs.specs.Tables.{UsesTable, UsesTables, FitsTables, table_limit}
use Rattle.plan_defs.specs.{declared.bit_rows.BitRows.BitRows, Bits.HasBit, declared.plan.Homes.Homes, code.Lists.ListsBelow}
use Rattle.machine_text.specs.declared.machine.Machine.{Machine}
use Rattle.node_defs.specs.declared.items.Item.TheVariants.{Input, BlockBit, Node, Latch}
use Rattle.node_defs.specs.declared.items.{Item.Item, NodeNet.NodeNet}
use Rattle.slot_plan.specs.declared.tables.Crowded.{Crowded}

-- the item is a node with this table
abbrev pub HasTable : Item → ℕ → Type 0
HasTable (Input column) t = ⊥
HasTable (BlockBit block bit) t = ⊥
HasTable (Node table feeds) t = t ≡ table
HasTable (Latch op) t = ⊥

-- so many numbers below the end have the property
pub record CountsBelow (P : ℕ → Type 0) (end count : ℕ) : Type 0 where
  pub numbers : List ℕ
  pub lists : ListsBelow P end numbers
  pub are : count ≡ length numbers

-- the row of each logic port has the tables that its nodes use
pub record AreUsed (nodes : NodeNet) (homes : Homes) (rows : BitRows) : Type 0 where
  pub room : (port : ℕ) → port < homes.logic → port * rows.stride + rows.stride ≤ length rows.words
  pub exact : (port table : ℕ) → HasBit rows port table ↔ UsesTable nodes homes port table

-- the first port that uses more tables than it may
pub record IsFirstCrowded (nodes : NodeNet) (homes : Homes) (machine : Machine) (found : Crowded) : Type 0 where
  pub logic : found.port < homes.logic
  pub uses : UsesTables nodes homes found.port found.needed
  pub past : table_limit machine found.port < found.needed
  pub before : (lower : ℕ) → lower < found.port → FitsTables nodes homes machine lower
  -- there are no more tables than that
  pub most : found.needed ≤ length nodes.tables
