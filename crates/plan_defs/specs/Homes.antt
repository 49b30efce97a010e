-- Ports, and which homes are homes of these items.
use Rattle.std.specs.Prelude.{◌≡◌, ℕ, ◌+◌, ◌<◌, ◌≤◌, length, Some, slice_get, slice_index}
use Rattle.limits.specs.declared.TheConstants.{MAX_LOGIC, MAX_ARRAY, MAX_PORTS}
use Rattle.node_defs.specs.declared.items.Item.TheVariants.{Input, BlockBit, Node, Latch}
use Rattle.node_defs.specs.declared.items.{Item.Item, NodeNet.NodeNet}
use Rattle.plan_defs.specs.declared.plan.Homes.{Homes}

-- the host comes after the logic ports and the array ports
abbrev pub host_of : Homes → ℕ
host_of homes = homes.logic + homes.array

-- the number of ports
abbrev pub ports_of : Homes → ℕ
ports_of homes = homes.logic + homes.array + 1

-- the home of an item, given by its number, and of a memory
abbrev pub home_of : Homes → ℕ → ℕ
home_of homes i = slice_index homes.items i

abbrev pub block_home : Homes → ℕ → ℕ
block_home homes m = slice_index homes.blocks m

-- the port may be the item's home: the host for an input, the memory's port for a memory output, any
-- logic port for a node or a latch
abbrev pub MayHouse : Homes → Item → ℕ → Type 0
MayHouse homes (Input column) port = port ≡ host_of homes
MayHouse homes (BlockBit block bit) port = port ≡ block_home homes block
MayHouse homes (Node table feeds) port = port < homes.logic
MayHouse homes (Latch op) port = port < homes.logic

-- the homes are of these items
pub record AreHomes (nodes : NodeNet) (homes : Homes) : Type 0 where
  -- as many processors as a machine has
  pub logic : (1 ≤ homes.logic) × (homes.logic ≤ MAX_LOGIC)
  pub array : homes.array ≤ MAX_ARRAY
  pub ports : ports_of homes ≤ MAX_PORTS
  -- each item and each memory has a home that it may have
  pub items : length homes.items ≡ length nodes.items
  pub housed : (i : ℕ) (item : Item) → slice_get nodes.items i ≡ Some item → MayHouse homes item (home_of homes i)
  pub blocks : length homes.blocks ≡ length nodes.blocks
  pub memories : (m : ℕ) → m < length nodes.blocks → (homes.logic ≤ block_home homes m) × (block_home homes m < host_of homes)
