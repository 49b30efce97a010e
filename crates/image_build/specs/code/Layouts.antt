-- How each part of an image is laid out: from which slots a port takes values, and what it does.
use Rattle.std.specs.Prelude.{◌≡◌, ℕ, ◌==◌, ◌<◌, ◌≤◌, Bool, true, false, if◌then◌else◌, List, length, map, Some, slice_get}
use Rattle.net_defs.specs.declared.timing.Timing.{Timing}
use Rattle.func_table.specs.{declared.table.Table.Table, Shelf.AreInOrderOfUse}
use Rattle.node_defs.specs.declared.items.{Feed.Feed, Feed.TheVariants.From, Feed.TheVariants.Fixed, Item.Item, NodeBlock.NodeBlock, NodeNet.NodeNet}
use Rattle.node_defs.specs.WellFormed.{column_count}
use Rattle.node_defs.specs.declared.items.Item.TheVariants as item
use Rattle.image_defs.specs.declared.image.{Source.Source, Source.TheVariants.Own, Source.TheVariants.Got, Source.TheVariants.Const, Task.Task}
use Rattle.image_defs.specs.declared.image.{Task.TheVariants.Eval, Task.TheVariants.Hold, BlockWork.BlockWork, OutBit.OutBit, InColumn.InColumn, Work.Work}
use Rattle.image_defs.specs.declared.image.{Work.TheVariants.Logic, Work.TheVariants.Array, Work.TheVariants.Host, PortImage.PortImage, Image.Image}
use Rattle.image_defs.specs.{Places.IsPort, Matches.claims_of, Matches.is_last}
use Rattle.plan_defs.specs.declared.{plan.Homes.Homes, plan.Plan.Plan, switch.PortLinks.PortLinks, switch.Switch.Switch}
use Rattle.plan_defs.specs.{Homes.home_of, Homes.host_of, Homes.ports_of, Slots.slot_of}
use Rattle.image_build.specs.{PortItems.ArePlanClaims, Built.Evaluates, Built.ArePortMemories, Built.AreLinksOf}

-- where port p takes item o from: its own slot where the item is at home, else what it receives
abbrev pub source_of : Homes → List ℕ → ℕ → ℕ → Bool → Source
source_of homes slots p o last = if home_of homes o == p then Own (slot_of slots o) last else Got (slot_of slots o) last

abbrev pub feed_source : Homes → List ℕ → ℕ → Feed → Source
feed_source homes slots p (From o tag) = source_of homes slots p o (is_last tag)
feed_source homes slots p (Fixed v) = Const v

-- one thing for each of these items, each of which is for its item
pub record AreMadeFor {T : Type 0} (nodes : NodeNet) (IsFor : ℕ → Item → T → Type 0) (items : List ℕ) (made : List T) : Type 0 where
  pub as_many : length made ≡ length items
  pub each : (i x : ℕ) (one : Item) (thing : T) → slice_get items i ≡ Some x → slice_get nodes.items x ≡ Some one → slice_get made i ≡ Some thing → IsFor x one thing

-- ---- tasks

-- port p has the item's table under this number, and looks up what the item takes; or it holds the item
abbrev pub IsTaskFor : NodeNet → Homes → List ℕ → ℕ → List Table → ℕ → Item → Task → Type 0
IsTaskFor nodes homes slots p tables x (item.Node t feeds) task =
    (n : ℕ) × (n < length tables) × (slice_get tables n ≡ slice_get nodes.tables t)
    × (task ≡ Eval (slot_of slots x) n (feed_source homes slots p feeds.a) (feed_source homes slots p feeds.b) (feed_source homes slots p feeds.c) (feed_source homes slots p feeds.d))
IsTaskFor nodes homes slots p tables x (item.Latch op) task = task ≡ Hold (slot_of slots x) (source_of homes slots p op true)
IsTaskFor nodes homes slots p tables x other task = ⊥

-- one task for each of these items
abbrev pub AreTasks : NodeNet → Homes → List ℕ → ℕ → List ℕ → List Table → List Task → Type 0
AreTasks nodes homes slots p items tables tasks = AreMadeFor nodes (IsTaskFor nodes homes slots p tables) items tasks

-- ---- memories

-- the memory, by where port p takes its operands of the last turn from
abbrev pub block_for : Homes → List ℕ → ℕ → NodeBlock → BlockWork
block_for homes slots p memory = record {
  we = source_of homes slots p memory.we true;
  address = map (λ o. source_of homes slots p o true) memory.address;
  word = map (λ o. source_of homes slots p o true) memory.word;
}

-- one block for each of the memories of these numbers
pub record AreBlocks (nodes : NodeNet) (homes : Homes) (slots : List ℕ) (p : ℕ) (numbers : List ℕ) (blocks : List BlockWork) : Type 0 where
  pub as_many : length blocks ≡ length numbers
  pub each : (k m : ℕ) (memory : NodeBlock) → slice_get numbers k ≡ Some m → slice_get nodes.blocks m ≡ Some memory → slice_get blocks k ≡ Some (block_for homes slots p memory)

-- the output bit is that of the item, by the place of its memory among these numbers
abbrev pub IsBitFor : List ℕ → List ℕ → ℕ → Item → OutBit → Type 0
IsBitFor slots numbers x (item.BlockBit m bit) out =
    (k : ℕ) × (slice_get numbers k ≡ Some m) × (out ≡ record { slot = slot_of slots x; block = k; bit = bit })
IsBitFor slots numbers x other out = ⊥

-- one output bit for each of these items
abbrev pub AreBits : NodeNet → List ℕ → List ℕ → List ℕ → List OutBit → Type 0
AreBits nodes slots items numbers outs = AreMadeFor nodes (IsBitFor slots numbers) items outs

-- ---- inputs

abbrev pub IsInputFor : List ℕ → ℕ → Item → InColumn → Type 0
IsInputFor slots x (item.Input column) input = input ≡ record { slot = slot_of slots x; column = column }
IsInputFor slots x other input = ⊥

-- one input for each of these items
abbrev pub AreInputs : NodeNet → List ℕ → List ℕ → List InColumn → Type 0
AreInputs nodes slots items inputs = AreMadeFor nodes (IsInputFor slots) items inputs

-- ---- ports

-- what port p does for its items
abbrev pub IsWorkFor : NodeNet → Homes → List ℕ → ℕ → List ℕ → Work → Type 0
IsWorkFor nodes homes slots p items (Logic tables tasks) =
    (p < homes.logic) × AreTasks nodes homes slots p items tables tasks × AreInOrderOfUse (Evaluates tasks) tables
IsWorkFor nodes homes slots p items (Array blocks outs) =
    (homes.logic ≤ p) × (p < host_of homes) × (numbers : List ℕ) × ArePortMemories nodes homes p numbers
    × AreBlocks nodes homes slots p numbers blocks × AreBits nodes slots items numbers outs
IsWorkFor nodes homes slots p items (Host inputs printed) =
    (p ≡ host_of homes) × AreInputs nodes slots items inputs × (printed ≡ map (λ o. source_of homes slots p o false) nodes.printed)

-- the image is laid out for these items in this plan
pub record IsLaidOut (nodes : NodeNet) (homes : Homes) (plan : Plan) (switch : Switch) (timing : Timing) (claims : List (List ℕ)) (image : Image) : Type 0 where
  pub slots : image.slots ≡ plan.needed
  pub units : image.units ≡ timing.units
  pub init : image.init ≡ timing.init
  pub columns : image.columns ≡ column_count nodes
  pub ports : length image.ports ≡ ports_of homes
  pub planned : ArePlanClaims nodes homes plan.slots claims
  pub works : (p : ℕ) (port : PortImage) → IsPort image p port → IsWorkFor nodes homes plan.slots p (claims_of claims p) port.work
  pub links : (p : ℕ) (port : PortImage) (links : PortLinks) → IsPort image p port → slice_get switch.ports p ≡ Some links → AreLinksOf links port
