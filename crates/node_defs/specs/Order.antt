-- In which order the items of a netlist stand, and the whole list.
use Rattle.std.specs.Prelude.{◌≡◌, ℕ, ◌+◌, ◌<◌, ◌≤◌, nat_lt, max, if◌then◌else◌, ◌⊎◌, ◌↔◌, List, length, Option, Some, None, slice_get, slice_index}
use Rattle.net_defs.specs.declared.{netlist.Netlist.Netlist, netlist.Block.Block, timing.Timing.Timing}
use Rattle.func_table.specs.Shelf.{AreDifferent, AreInOrderOfUse}
use Rattle.node_defs.specs.declared.items.Item.TheVariants.{Input, BlockBit, Node, Latch}
use Rattle.node_defs.specs.Items.{IsNamed, IsItem, AreNames, StandFor, IsNodeBlock}
use Rattle.node_defs.specs.declared.items.{Tag.TheVariants.This, Tag.TheVariants.Last, Feed.Feed, Feed.TheVariants.From, Feed.TheVariants.Fixed, Feeds.Feeds}
use Rattle.node_defs.specs.declared.items.{Item.Item, ItemName.ItemName, NodeBlock.NodeBlock, NodeNet.NodeNet}

-- inputs come first, then memory outputs, then nodes and latches
abbrev pub class_of : Item → ℕ
class_of (Input column) = 0
class_of (BlockBit block bit) = 1
class_of (Node table feeds) = 2
class_of (Latch op) = 2

-- the least rank of what takes this operand: one more than that of a node or latch of this turn, and else 0
abbrev pub rank_after_feed : ℕ → List ℕ → Feed → ℕ
rank_after_feed first_node ranks (From x Last) = 0
rank_after_feed first_node ranks (From x This) = if nat_lt x first_node then 0 else slice_index ranks x + 1
rank_after_feed first_node ranks (Fixed v) = 0

-- the rank of an item: of a node one more than the greatest rank of the nodes and latches whose
-- values of this turn it takes, and 0 where there is none; of all else 0
abbrev pub rank_of : ℕ → List ℕ → Item → ℕ
rank_of first_node ranks (Input column) = 0
rank_of first_node ranks (BlockBit block bit) = 0
rank_of first_node ranks (Latch op) = 0
rank_of first_node ranks (Node table feeds) =
    max (max (rank_after_feed first_node ranks feeds.a) (rank_after_feed first_node ranks feeds.b)) (max (rank_after_feed first_node ranks feeds.c) (rank_after_feed first_node ranks feeds.d))

-- by what items are ordered
pub record Key : Type 0 where
  pub class : ℕ
  pub rank : ℕ
  pub signal : ℕ
  pub helper : Option ℕ

abbrev pub key_of : List ℕ → ℕ → ItemName → Item → Key
key_of ranks x name item = record { class = class_of item; rank = slice_index ranks x; signal = name.signal; helper = name.helper }

-- helpers come by their numbers, and a gate's own node after them
abbrev pub HelperBefore : Option ℕ → Option ℕ → Type 0
HelperBefore None other = ⊥
HelperBefore (Some h) None = Unit {0}
HelperBefore (Some h) (Some i) = h < i

-- by class, then rank, then signal, then helper
abbrev pub Before : Key → Key → Type 0
Before a b =
    (a.class < b.class) ⊎ ((a.class ≡ b.class) × ((a.rank < b.rank) ⊎ ((a.rank ≡ b.rank) × (
    (a.signal < b.signal) ⊎ ((a.signal ≡ b.signal) × HelperBefore a.helper b.helper)))))

-- these are the items of the netlist
pub record AreItems (net : Netlist) (timing : Timing) (nodes : NodeNet) : Type 0 where
  -- each signal and each helper has one item, and each item is what its name says
  pub named : length nodes.items ≡ length nodes.names
  pub names : AreNames net nodes.names
  pub right : (x : ℕ) (name : ItemName) (item : Item) → IsNamed nodes.names x name → slice_get nodes.items x ≡ Some item → IsItem net timing nodes.names nodes.tables name item
  -- they stand in order
  pub ranks : List ℕ
  pub ranked : (x : ℕ) (item : Item) → slice_get nodes.items x ≡ Some item → slice_index ranks x ≡ rank_of nodes.first_node ranks item
  pub ordered : (x y : ℕ) (one other : ItemName) (i j : Item) → x < y → IsNamed nodes.names x one → IsNamed nodes.names y other → slice_get nodes.items x ≡ Some i → slice_get nodes.items y ≡ Some j → Before (key_of ranks x one i) (key_of ranks y other j)
  pub first_node : (x : ℕ) (item : Item) → slice_get nodes.items x ≡ Some item → (class_of item ≡ 2) ↔ (nodes.first_node ≤ x)
  pub first_node_within : nodes.first_node ≤ length nodes.items
  -- no two tables are equal, and each is of some node
  pub tables : AreDifferent nodes.tables
  pub tables_used : (t : ℕ) → t < length nodes.tables → (x : ℕ) × (feeds : Feeds) × (slice_get nodes.items x ≡ Some (Node t feeds))
  -- what is printed, and the memories
  pub printed : StandFor nodes.names nodes.printed net.printed
  pub memories : length nodes.blocks ≡ length net.blocks
  pub blocks : (m : ℕ) (memory : Block) (block : NodeBlock) → slice_get net.blocks m ≡ Some memory → slice_get nodes.blocks m ≡ Some block → IsNodeBlock nodes.names memory block

-- item x is a node of this table
pub record IsNodeOf (items : List Item) (x table : ℕ) : Type 0 where
  pub feeds : Feeds
  pub is : slice_get items x ≡ Some (Node table feeds)

-- the netlist is mapped to these nodes: they are its items, and their tables are numbered in the order in which the items
-- first use them. So a netlist and a timing are mapped to one list
pub record IsMapped (net : Netlist) (timing : Timing) (nodes : NodeNet) : Type 0 where
  pub items : AreItems net timing nodes
  pub tables : AreInOrderOfUse (IsNodeOf nodes.items) nodes.tables
