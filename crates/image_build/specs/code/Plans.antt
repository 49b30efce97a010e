-- Beside specs/Plans.antt, what only private functions and proofs cite.
use Rattle.std.specs.Prelude.{◌≡◌, ℕ, ◌<◌, ◌≤◌, List, length, take, Some, slice_get, slice_index, Contains}
use Rattle.func_table.specs.{declared.table.Table.Table, Shelf.AreInOrderOfUse, Shelf.IsNumbered}
use Rattle.node_defs.specs.declared.items.Item.TheVariants.{Input, BlockBit, Node, Latch}
use Rattle.node_defs.specs.declared.items.{Item.Item, NodeNet.NodeNet}
use Rattle.image_defs.specs.declared.image.{Task.Task, Task.TheVariants.Eval, Task.TheVariants.Hold, OutBit.OutBit, PortImage.PortImage}
use Rattle.image_defs.specs.Matches.{claims_of}
use Rattle.plan_defs.specs.declared.{plan.Homes.Homes, plan.Plan.Plan, switch.PortLinks.PortLinks, switch.Switch.Switch}
use Rattle.plan_defs.specs.{Homes.block_home, Homes.ports_of, code.Lists.ListsBelow, Slots.slot_of}
use Rattle.image_build.specs.{declared.memories.Memories.Memories, PortItems.IsAt, Built.ArePortMemories, Built.Evaluates, Built.AreLinksOf}
use Rattle.image_build.specs.code.Layouts.{AreTasks, IsWorkFor}
use Rattle.switch_set.specs.Links.{IsSlotList}

-- the lists of the ports have these items, each in slot order
pub record AreItemsAmong (nodes : NodeNet) (homes : Homes) (slots done : List ℕ) (lists : List (List ℕ)) : Type 0 where
  pub ports : length lists ≡ ports_of homes
  pub items : (p : ℕ) → IsSlotList (slot_of slots) (λ i x. x ≡ i) (λ i. IsAt nodes homes p i × Contains done i) (claims_of lists p)

-- the item is an input, or a memory output
abbrev pub IsInputItem : Item → Type 0
IsInputItem (Input column) = Unit {0}
IsInputItem (BlockBit m bit) = ⊥
IsInputItem (Node t feeds) = ⊥
IsInputItem (Latch op) = ⊥

abbrev pub IsBitItem : Item → Type 0
IsBitItem (Input column) = ⊥
IsBitItem (BlockBit m bit) = Unit {0}
IsBitItem (Node t feeds) = ⊥
IsBitItem (Latch op) = ⊥

-- the output bit is that of the item, by the place of its memory
abbrev pub IsBitAt : List ℕ → List ℕ → ℕ → Item → OutBit → Type 0
IsBitAt slots places x (BlockBit m bit) out = out ≡ record { slot = slot_of slots x; block = slice_index places m; bit = bit }
IsBitAt slots places x (Input column) out = ⊥
IsBitAt slots places x (Node t feeds) out = ⊥
IsBitAt slots places x (Latch op) out = ⊥

-- a task's table is one of the old ones, or the next
abbrev pub Shelves : List Table → List Table → Task → Type 0
Shelves old new (Eval slot n a b c d) = (table : Table) × IsNumbered table old new n
Shelves old new (Hold slot from) = new ≡ old

-- the tasks of the first so many items, and their tables
pub record AreFirstTasks (nodes : NodeNet) (homes : Homes) (slots : List ℕ) (p k : ℕ) (items : List ℕ) (tables : List Table) (tasks : List Task) : Type 0 where
  pub tasks_are : AreTasks nodes homes slots p (take k items) tables tasks
  pub in_order : AreInOrderOfUse (Evaluates tasks) tables
  pub few : length tables ≤ k

-- the memories of each port in their order, and for each memory its place among those of its port
pub record AreMemories (nodes : NodeNet) (homes : Homes) (memories : Memories) : Type 0 where
  pub ports : length memories.lists ≡ ports_of homes
  pub lists : (p : ℕ) → p < ports_of homes → ArePortMemories nodes homes p (claims_of memories.lists p)
  pub places_are : length memories.places ≡ length nodes.blocks
  pub places : (m k : ℕ) → slice_get memories.places m ≡ Some k → slice_get (claims_of memories.lists (block_home homes m)) k ≡ Some m

-- the same of the first n memories
pub record AreFirstMemories (nodes : NodeNet) (homes : Homes) (n : ℕ) (memories : Memories) : Type 0 where
  pub ports : length memories.lists ≡ ports_of homes
  pub lists : (p : ℕ) → ListsBelow (λ m. block_home homes m ≡ p) n (claims_of memories.lists p)
  pub places_are : length memories.places ≡ n
  pub places : (m k : ℕ) → slice_get memories.places m ≡ Some k → slice_get (claims_of memories.lists (block_home homes m)) k ≡ Some m

-- the first n ports do the work for their items, with their links
pub record AreFirstPorts (nodes : NodeNet) (homes : Homes) (plan : Plan) (switch : Switch) (claims : List (List ℕ)) (n : ℕ) (ports : List PortImage) : Type 0 where
  pub are : length ports ≡ n
  pub works : (p : ℕ) (port : PortImage) → slice_get ports p ≡ Some port → IsWorkFor nodes homes plan.slots p (claims_of claims p) port.work
  pub links : (p : ℕ) (port : PortImage) (links : PortLinks) → slice_get ports p ≡ Some port → slice_get switch.ports p ≡ Some links → AreLinksOf links port
