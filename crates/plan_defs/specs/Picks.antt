-- The homes that are picked for items: memories in their order at the first array port with room, and
-- nodes in turn over the logic ports, past those that are full.
use Rattle.std.specs.Prelude.{◌≡◌, ℕ, ◌+◌, ◌-◌, ◌*◌, ◌%◌, ◌^◌, ◌<◌, ◌≤◌, ◌==◌, if◌then◌else◌, List, length, Option, Some, None, slice_get, slice_index}
use Rattle.std.specs.List.{sum_by, range_with_len}
use Rattle.machine_text.specs.declared.machine.{Machine.Machine, Limited.TheVariants.Nodes, Limited.TheVariants.Bits}
use Rattle.machine_text.specs.Limits.{limit_at}
use Rattle.node_defs.specs.declared.items.Item.TheVariants.{Input, BlockBit, Node, Latch}
use Rattle.node_defs.specs.declared.items.{Item.Item, NodeBlock.NodeBlock, NodeNet.NodeNet}
use Rattle.plan_defs.specs.{declared.plan.Homes.Homes, Homes.host_of, Homes.home_of, Homes.block_home, Lists.IsLeastFree}

-- the bits of a memory, given by its number: 2^m words of n bits
abbrev pub bits_of : NodeNet → ℕ → ℕ
bits_of nodes m = of_block (slice_get nodes.blocks m) where
  of_block : Option NodeBlock → ℕ
  of_block None = 0
  of_block (Some block) = 2 ^ length block.address * length block.word

-- the bits of the memories before m that are at the port
abbrev pub bits_before : NodeNet → List ℕ → ℕ → ℕ → ℕ
bits_before nodes ports m port = sum_by (λ k. if slice_index ports k == port then bits_of nodes k else 0) (range_with_len 0 m)

-- the most bits that array port number a holds
abbrev pub bit_limit : Machine → ℕ → ℕ
bit_limit machine a = limit_at machine Bits a

-- array port number a has no room for memory m after the memories before it
abbrev pub LacksRoom : NodeNet → Machine → List ℕ → ℕ → ℕ → Type 0
LacksRoom nodes machine ports m a = bit_limit machine a < bits_before nodes ports m (machine.logic + a) + bits_of nodes m

-- each of the first n memories is at the first array port that has room for it
pub record AreHoused (nodes : NodeNet) (machine : Machine) (ports : List ℕ) (n : ℕ) : Type 0 where
  pub memories : length ports ≡ n
  pub array : (m : ℕ) → m < n → (a : ℕ) × (a < machine.array) × (slice_index ports m ≡ machine.logic + a) × IsLeastFree (LacksRoom nodes machine ports m) a

-- the nodes, latches among them: all items from the first node on
abbrev pub node_count : NodeNet → ℕ
node_count nodes = length nodes.items - nodes.first_node

-- the most nodes that a logic port holds, and all of them together
abbrev pub node_limit : Machine → ℕ → ℕ
node_limit machine port = limit_at machine Nodes port

abbrev pub node_room : Machine → ℕ
node_room machine = sum_by (node_limit machine) (range_with_len 0 machine.logic)

-- the nodes before node number n that are at the port, where items are at these ports
abbrev pub nodes_before : NodeNet → List ℕ → ℕ → ℕ → ℕ
nodes_before nodes ports n port = sum_by (λ k. if slice_index ports (nodes.first_node + k) == port then 1 else 0) (range_with_len 0 n)

-- the port has as many nodes before node number n as it holds
abbrev pub IsFull : NodeNet → Machine → List ℕ → ℕ → ℕ → Type 0
IsFull nodes machine ports n port = node_limit machine port ≤ nodes_before nodes ports n port

-- node number n is at the first of the logic ports n, n + 1 and so on, modulo their number, that is not full
pub record IsInTurn (nodes : NodeNet) (machine : Machine) (ports : List ℕ) (n : ℕ) : Type 0 where
  pub past : ℕ
  pub within : past < machine.logic
  pub at : slice_index ports (nodes.first_node + n) ≡ (n + past) % machine.logic
  pub first : IsLeastFree (λ e. IsFull nodes machine ports n ((n + e) % machine.logic)) past

-- an item has its home: an input the host, a memory output the port of its memory, a node or a latch a
-- logic port in turn
abbrev pub HasPickedHome : NodeNet → Machine → Homes → ℕ → Item → Type 0
HasPickedHome nodes machine homes i (Input column) = home_of homes i ≡ host_of homes
HasPickedHome nodes machine homes i (BlockBit block bit) = home_of homes i ≡ block_home homes block
HasPickedHome nodes machine homes i (Node table feeds) = IsInTurn nodes machine homes.items (i - nodes.first_node)
HasPickedHome nodes machine homes i (Latch op) = IsInTurn nodes machine homes.items (i - nodes.first_node)

-- the homes that are picked on this machine
pub record ArePicked (nodes : NodeNet) (machine : Machine) (homes : Homes) : Type 0 where
  pub logic : homes.logic ≡ machine.logic
  pub array : homes.array ≡ machine.array
  pub memories : AreHoused nodes machine homes.blocks (length nodes.blocks)
  pub few : node_count nodes ≤ node_room machine
  pub items : length homes.items ≡ length nodes.items
  pub picked : (i : ℕ) (item : Item) → slice_get nodes.items i ≡ Some item → HasPickedHome nodes machine homes i item

-- the bits that are left on array port number a before memory m
abbrev pub bits_left : NodeNet → Machine → List ℕ → ℕ → ℕ → ℕ
bits_left nodes machine ports m a = bit_limit machine a - bits_before nodes ports m (machine.logic + a)

-- the first memory that finds no port, its bits, and the most bits that are left on an array port, 0
-- without one
pub record FindsNoPort (nodes : NodeNet) (machine : Machine) (block needed left : ℕ) : Type 0 where
  pub ports : List ℕ
  pub before : AreHoused nodes machine ports block
  pub there : block < length nodes.blocks
  pub bits : needed ≡ bits_of nodes block
  pub none : (a : ℕ) → a < machine.array → LacksRoom nodes machine ports block a
  pub past : left < needed
  pub most : (a : ℕ) → a < machine.array → bits_left nodes machine ports block a ≤ left
  pub reached : (machine.array ≡ 0 → left ≡ 0) × (1 ≤ machine.array → (a : ℕ) × (a < machine.array) × (bits_left nodes machine ports block a ≡ left))

-- each memory has a port, and the nodes are more than the logic ports hold together
pub record HasTooManyNodes (nodes : NodeNet) (machine : Machine) (needed limit : ℕ) : Type 0 where
  pub ports : List ℕ
  pub memories : AreHoused nodes machine ports (length nodes.blocks)
  pub count : needed ≡ node_count nodes
  pub room : limit ≡ node_room machine
  pub past : limit < needed
