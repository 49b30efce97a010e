-- The tables that the nodes of each port use, as rows of bits.
use Rattle.std.specs.Prelude.{◌≡◌, ℕ, ◌<◌, ◌≤◌, List, length, slice_index}
use Rattle.node_defs.specs.declared.items.NodeNet.{NodeNet}
use Rattle.plan_defs.specs.{declared.plan.Homes.Homes, Tables.UsesTables}

-- the numbers of different tables that the nodes of the first so many ports use
pub record AreTableCounts (nodes : NodeNet) (homes : Homes) (ports : ℕ) (counts : List ℕ) : Type 0 where
  pub length_is : length counts ≡ ports
  pub uses : (port : ℕ) → port < ports → UsesTables nodes homes port (slice_index counts port)
  -- there are no more tables than that
  pub most : (port : ℕ) → port < ports → slice_index counts port ≤ length nodes.tables
