-- What planning and building ask of items, by plain facts. The items of a valid netlist have it.
use Rattle.std.specs.Prelude.{◌≡◌, ◌↔◌, ℕ, ◌<◌, ◌≤◌, ◌^◌, Bool, true, false, length, Some, slice_get, count_by, All}
use Rattle.limits.specs.declared.TheConstants.{MAX_ADDRESS_BITS, MAX_WORD_BITS}
use Rattle.func_table.specs.Shelf.{AreDifferent}
use Rattle.node_defs.specs.declared.items.Item.TheVariants.{Input, BlockBit, Node, Latch}
use Rattle.node_defs.specs.declared.items.{Item.Item, NodeBlock.NodeBlock, NodeNet.NodeNet}
use Rattle.node_defs.specs.Takes.{Takes, Awaits, BlockTakes}

-- the item is a node or a latch
abbrev pub IsComputed : Item → Type 0
IsComputed (Input column) = ⊥
IsComputed (BlockBit block bit) = ⊥
IsComputed (Node table feeds) = Unit {0}
IsComputed (Latch op) = Unit {0}

-- what the item names beside items is there
abbrev pub NamesParts : NodeNet → Item → Type 0
NamesParts nodes (Input column) = Unit {0}
NamesParts nodes (BlockBit block bit) = block < length nodes.blocks
NamesParts nodes (Node table feeds) = table < length nodes.tables
NamesParts nodes (Latch op) = Unit {0}

-- whether the item is an input
abbrev pub is_input : Item → Bool
is_input (Input column) = true
is_input (BlockBit block bit) = false
is_input (Node table feeds) = false
is_input (Latch op) = false

-- the number of inputs
abbrev pub column_count : NodeNet → ℕ
column_count nodes = count_by is_input nodes.items

-- a memory reads items that are there, by 1 to 16 address bits and 1 to 64 data bits
pub record IsMemoryOf (nodes : NodeNet) (block : NodeBlock) : Type 0 where
  pub taken : (o : ℕ) → BlockTakes block o → o < length nodes.items
  pub address : (1 ≤ length block.address) × (length block.address ≤ MAX_ADDRESS_BITS)
  pub word : (1 ≤ length block.word) × (length block.word ≤ MAX_WORD_BITS)

pub record IsWellFormed (nodes : NodeNet) : Type 0 where
  -- operands are there, and those of this turn stand before
  pub taken : (i o : ℕ) (item : Item) → slice_get nodes.items i ≡ Some item → Takes item o → o < length nodes.items
  pub awaited : (i o : ℕ) (item : Item) → slice_get nodes.items i ≡ Some item → Awaits item o → o < i
  pub parts : (i : ℕ) (item : Item) → slice_get nodes.items i ≡ Some item → NamesParts nodes item
  -- the column of an input is one of so many as there are inputs, and an output bit is one of its memory's
  pub columns : (i column : ℕ) → slice_get nodes.items i ≡ Some (Input column) → column < column_count nodes
  pub bits : (i m bit : ℕ) (memory : NodeBlock) → slice_get nodes.items i ≡ Some (BlockBit m bit) → slice_get nodes.blocks m ≡ Some memory → bit < length memory.word
  pub memories : (m : ℕ) (block : NodeBlock) → slice_get nodes.blocks m ≡ Some block → IsMemoryOf nodes block
  pub printed : All (λ o. o < length nodes.items) nodes.printed
  -- nodes and latches come last
  pub nodes_last : (i : ℕ) (item : Item) → slice_get nodes.items i ≡ Some item → IsComputed item ↔ (nodes.first_node ≤ i)
  -- no two tables are equal
  pub tables : AreDifferent nodes.tables
  pub few : length nodes.items < 2 ^ 31
  pub few_tables : length nodes.tables < 2 ^ 32
  pub few_memories : length nodes.blocks < 2 ^ 32
