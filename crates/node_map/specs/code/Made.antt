-- The items as they are made, by the keys in order.
use Rattle.std.specs.Prelude.{◌≡◌, ℕ, ◌+◌, ◌<◌, ◌≤◌, List, length, Option, Some, slice_get, option_map}
use Rattle.net_defs.specs.declared.{netlist.Netlist.Netlist, netlist.Block.Block, netlist.Driver.Driver, timing.Timing.Timing}
use Rattle.func_table.specs.declared.table.Table.{Table}
use Rattle.node_defs.specs.declared.items.{Feeds.Feeds, Item.Item, Item.TheVariants.Node, ItemName.ItemName, NodeBlock.NodeBlock}
use Rattle.node_defs.specs.{Items.IsItem, Items.IsNodeBlock, Order.IsNodeOf}
use Rattle.node_map.specs.{declared.keys.Key.Key, code.Places.name_of}

-- the driver of a signal
abbrev pub driver_at : Netlist → ℕ → Option Driver
driver_at net s = option_map (λ signal. signal.driver) (slice_get net.signals s)

-- the item is what the name of its key says, and of the tables only its own is new
pub record IsMadeItem (net : Netlist) (timing : Timing) (names : List ItemName) (old tables : List Table) (key : Key) (item : Item) : Type 0 where
  pub is : IsItem net timing names tables (name_of net key) item
  pub new : (t : ℕ) → length old ≤ t → t < length tables → (feeds : Feeds) × (item ≡ Node t feeds)
  pub one : length tables ≤ length old + 1
  pub there : (t : ℕ) (feeds : Feeds) → item ≡ Node t feeds → t < length tables

-- there is an item for each key, and a node for each table, which comes after all nodes of those before it
pub record AreMade (net : Netlist) (timing : Timing) (names : List ItemName) (tables : List Table) (keys : List Key) (items : List Item) : Type 0 where
  pub long : length items ≡ length keys
  pub each : (x : ℕ) (key : Key) (item : Item) → slice_get keys x ≡ Some key → slice_get items x ≡ Some item → IsItem net timing names tables (name_of net key) item
  pub used : (t : ℕ) → t < length tables → (x : ℕ) × IsNodeOf items x t
  pub before : (x t u : ℕ) → IsNodeOf items x u → t < u → (y : ℕ) × (y < x) × IsNodeOf items y t

-- memory for memory, by the numbers of items
pub record AreNodeBlocks (names : List ItemName) (memories : List Block) (blocks : List NodeBlock) : Type 0 where
  pub each : length blocks ≡ length memories
  pub same : (m : ℕ) (memory : Block) (block : NodeBlock) → slice_get memories m ≡ Some memory → slice_get blocks m ≡ Some block → IsNodeBlock names memory block
