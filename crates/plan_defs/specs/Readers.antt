-- The ports that read an item.
use Rattle.std.specs.Prelude.{◌≡◌, ◌≢◌, ◌⊎◌, ℕ, List, Contains, Some, slice_get}
use Rattle.node_defs.specs.{declared.items.Item.Item, declared.items.NodeBlock.NodeBlock, declared.items.NodeNet.NodeNet, Takes.Takes, Takes.BlockTakes}
use Rattle.plan_defs.specs.{declared.plan.Homes.Homes, Homes.home_of, Homes.block_home, Homes.host_of, Lists.Lists}

-- an item at the port takes item i
pub record ItemTakes (nodes : NodeNet) (homes : Homes) (i port : ℕ) : Type 0 where
  pub taker : ℕ
  pub item : Item
  pub is : slice_get nodes.items taker ≡ Some item
  pub takes : Takes item i
  pub home : home_of homes taker ≡ port

-- a memory at the port takes item i
pub record MemoryTakes (nodes : NodeNet) (homes : Homes) (i port : ℕ) : Type 0 where
  pub memory : ℕ
  pub block : NodeBlock
  pub is : slice_get nodes.blocks memory ≡ Some block
  pub takes : BlockTakes block i
  pub home : block_home homes memory ≡ port

-- the port uses item i: an item or a memory at it takes it, or it is the host and the item is printed
abbrev pub IsUser : NodeNet → Homes → ℕ → ℕ → Type 0
IsUser nodes homes i port =
    ItemTakes nodes homes i port ⊎ (MemoryTakes nodes homes i port ⊎ (Contains nodes.printed i × (port ≡ host_of homes)))

-- the port reads item i: it uses it and is not its home
pub record IsReader (nodes : NodeNet) (homes : Homes) (i port : ℕ) : Type 0 where
  pub user : IsUser nodes homes i port
  pub away : port ≢ home_of homes i

-- the readers of item i in port order
abbrev pub IsReaderList : NodeNet → Homes → ℕ → List ℕ → Type 0
IsReaderList nodes homes i ports = Lists (IsReader nodes homes i) ports
