-- When an image matches items through claims: each item of each port claims an item, and its sources
-- carry what that item's operands name.
use Rattle.std.specs.Prelude.{◌≡◌, ℕ, Bool, true, false, List, [], length, Some, slice_get, slice_index_or}
use Rattle.net_defs.specs.declared.timing.Timing.{Timing}
use Rattle.func_table.specs.{declared.table.Table.Table, Entries.AreAlike}
use Rattle.node_defs.specs.declared.items.{Tag.Tag, Tag.TheVariants.This, Tag.TheVariants.Last, Feed.Feed, Feed.TheVariants.From, Feed.TheVariants.Fixed}
use Rattle.node_defs.specs.{declared.items.Item.Item, declared.items.NodeBlock.NodeBlock, declared.items.NodeNet.NodeNet, WellFormed.column_count}
use Rattle.node_defs.specs.declared.items.Item.TheVariants as item
use Rattle.image_defs.specs.Places.{IsPort, IsItemIn, item_slots, printed_of, sender_in, host_of}
use Rattle.image_defs.specs.declared.image.{Source.Source, Source.TheVariants.Own, Source.TheVariants.Got, Source.TheVariants.Const, Task.Task}
use Rattle.image_defs.specs.declared.image.{Task.TheVariants.Eval, Task.TheVariants.Hold, BlockWork.BlockWork, OutBit.OutBit, InColumn.InColumn, Work.Work}
use Rattle.image_defs.specs.declared.image.{Work.TheVariants.Logic, Work.TheVariants.Array, Work.TheVariants.Host, LinkIn.LinkIn, PortImage.PortImage}
use Rattle.image_defs.specs.declared.image.Image.{Image}

-- the claims of port p: a list for each port, with one item for each of the port's items in their order
abbrev pub claims_of : List (List ℕ) → ℕ → List ℕ
claims_of claims p = slice_index_or claims p []

-- item number i of port p claims item x
abbrev pub IsClaim : List (List ℕ) → ℕ → ℕ → ℕ → Type 0
IsClaim claims p i x = slice_get (claims_of claims p) i ≡ Some x

-- the item of port p in this slot claims item x
pub record ClaimsIn (image : Image) (claims : List (List ℕ)) (p slot x : ℕ) : Type 0 where
  pub i : ℕ
  pub port : PortImage
  pub is : IsPort image p port
  pub stands : IsItemIn port.work i slot
  pub claimed : IsClaim claims p i x

abbrev pub is_last : Tag → Bool
is_last This = false
is_last Last = true

-- ---- sources

-- a source of port p, which receives by these links, carries an operand: the place that it names claims the
-- operand's item, and `last` fits the tag; or both are the same constant
abbrev pub Carries : Image → List (List ℕ) → ℕ → List LinkIn → Source → Feed → Type 0
Carries image claims p ins (Own slot last) (From x tag) = ClaimsIn image claims p slot x × (last ≡ is_last tag)
Carries image claims p ins (Got slot last) (From x tag) = ClaimsIn image claims (sender_in ins slot) slot x × (last ≡ is_last tag)
Carries image claims p ins (Const v) (Fixed w) = v ≡ w
Carries image claims p ins source feed = ⊥

-- these sources carry these items of the last turn, one for one
pub record CarryAll (image : Image) (claims : List (List ℕ)) (p : ℕ) (ins : List LinkIn) (sources : List Source) (items : List ℕ) : Type 0 where
  pub as_many : length sources ≡ length items
  pub each : (k x : ℕ) (source : Source) → slice_get sources k ≡ Some source → slice_get items k ≡ Some x → Carries image claims p ins source (From x Last)

-- ---- what stands in a slot

-- the memory of a port has the operands of a memory of the items
pub record MemoryImplements (image : Image) (claims : List (List ℕ)) (p : ℕ) (ins : List LinkIn) (block : BlockWork) (memory : NodeBlock) : Type 0 where
  pub we : Carries image claims p ins block.we (From memory.we Last)
  pub address : CarryAll image claims p ins block.address memory.address
  pub word : CarryAll image claims p ins block.word memory.word

-- the task evaluates the node, by a table with the same entries, from sources that carry its operands; or it
-- holds the register, from a source that carries its operand
abbrev pub TaskImplements : Image → List (List ℕ) → NodeNet → ℕ → List LinkIn → List Table → Task → Item → Type 0
TaskImplements image claims nodes p ins tables (Eval slot table a b c d) (item.Node t feeds) =
    (one : Table) × (other : Table) × (slice_get tables table ≡ Some one) × (slice_get nodes.tables t ≡ Some other) × AreAlike one other
    × Carries image claims p ins a feeds.a × Carries image claims p ins b feeds.b × Carries image claims p ins c feeds.c × Carries image claims p ins d feeds.d
TaskImplements image claims nodes p ins tables (Hold slot from) (item.Latch op) = Carries image claims p ins from (From op Last)
TaskImplements image claims nodes p ins tables task other = ⊥

-- the output bit is the same bit of a memory with the operands of the item's memory
abbrev pub BitImplements : Image → List (List ℕ) → NodeNet → ℕ → List LinkIn → List BlockWork → OutBit → Item → Type 0
BitImplements image claims nodes p ins blocks out (item.BlockBit m bit) =
    (out.bit ≡ bit) × (block : BlockWork) × (memory : NodeBlock) × (slice_get blocks out.block ≡ Some block) × (slice_get nodes.blocks m ≡ Some memory)
    × MemoryImplements image claims p ins block memory
BitImplements image claims nodes p ins blocks out other = ⊥

-- the input is that of the same column
abbrev pub InputImplements : InColumn → Item → Type 0
InputImplements input (item.Input column) = input.column ≡ column
InputImplements input other = ⊥

-- item number i of port p, which does this work, is as the item
abbrev pub Implements : Image → List (List ℕ) → NodeNet → ℕ → List LinkIn → Work → ℕ → Item → Type 0
Implements image claims nodes p ins (Logic tables tasks) i other =
    (task : Task) × (slice_get tasks i ≡ Some task) × TaskImplements image claims nodes p ins tables task other
Implements image claims nodes p ins (Array blocks outs) i other =
    (out : OutBit) × (slice_get outs i ≡ Some out) × BitImplements image claims nodes p ins blocks out other
Implements image claims nodes p ins (Host inputs printed) i other =
    (input : InColumn) × (slice_get inputs i ≡ Some input) × InputImplements input other

-- ---- the whole image

-- item number i of port p is as the item x that it claims
pub record ImplementsClaim (image : Image) (claims : List (List ℕ)) (nodes : NodeNet) (p i x : ℕ) (port : PortImage) : Type 0 where
  pub item : Item
  pub is : slice_get nodes.items x ≡ Some item
  pub same : Implements image claims nodes p port.ins port.work i item

-- the host prints these items of this turn, one for one
pub record PrintsItems (image : Image) (claims : List (List ℕ)) (printed : List ℕ) (host : PortImage) : Type 0 where
  pub as_many : length (printed_of host.work) ≡ length printed
  pub each : (j x : ℕ) (source : Source) → slice_get (printed_of host.work) j ≡ Some source → slice_get printed j ≡ Some x → Carries image claims (host_of image) host.ins source (From x This)

-- the image matches the items, in this timing, through these claims
pub record Matches (image : Image) (claims : List (List ℕ)) (nodes : NodeNet) (timing : Timing) : Type 0 where
  pub units : image.units ≡ timing.units
  pub init : image.init ≡ timing.init
  pub columns : image.columns ≡ column_count nodes
  -- there is a claim for each item of each port, and each is as it claims
  pub ports : length claims ≡ length image.ports
  pub as_many : (p : ℕ) (port : PortImage) → IsPort image p port → length (claims_of claims p) ≡ length (item_slots port.work)
  pub items : (p i x : ℕ) (port : PortImage) → IsPort image p port → IsClaim claims p i x → ImplementsClaim image claims nodes p i x port
  pub printed : (host : PortImage) → IsPort image (host_of image) host → PrintsItems image claims nodes.printed host
