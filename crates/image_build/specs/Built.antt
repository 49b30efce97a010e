-- What is built for items at their homes and slots: a well-formed image that matches the items through
-- the claims of the plan, with its lists in a fixed order.
use Rattle.std.specs.Prelude.{◌≡◌, ℕ, ◌*◌, ◌<◌, ◌≤◌, List, length, map, Some, slice_get}
use Rattle.logic_four.specs.Values.{value_at}
use Rattle.net_defs.specs.{declared.timing.Timing.Timing, declared.stimulus.Stimulus.Stimulus, Steps.State}
use Rattle.func_table.specs.Shelf.{AreInOrderOfUse}
use Rattle.node_defs.specs.declared.items.{Item.TheVariants.BlockBit, NodeBlock.NodeBlock, NodeNet.NodeNet}
use Rattle.image_defs.specs.Matches.{claims_of, IsClaim, Matches, MemoryImplements}
use Rattle.image_defs.specs.declared.image.{Source.Source, Task.Task, Task.TheVariants.Eval, BlockWork.BlockWork, OutBit.OutBit, Work.Work}
use Rattle.image_defs.specs.declared.image.{Work.TheVariants.Logic, Work.TheVariants.Array, Work.TheVariants.Host, LinkIn.LinkIn, LinkOut.LinkOut}
use Rattle.image_defs.specs.{declared.image.PortImage.PortImage, declared.image.Image.Image, Places.IsPort, Places.item_slots, WellFormed.IsWellFormed}
use Rattle.image_defs.specs.Frames.{image_value, shown}
use Rattle.plan_defs.specs.declared.{plan.Homes.Homes, plan.Plan.Plan, switch.Sending.Sending, switch.Receipt.Receipt, switch.PortLinks.PortLinks}
use Rattle.plan_defs.specs.{declared.switch.Switch.Switch, Homes.home_of, Homes.block_home, Homes.host_of, Lists.Lists, Slots.slot_of}
use Rattle.image_build.specs.PortItems.{ArePlanClaims}

-- ---- the order of lists

-- task number i looks up in table n
pub record Evaluates (tasks : List Task) (i n : ℕ) : Type 0 where
  pub slot : ℕ
  pub a : Source
  pub b : Source
  pub c : Source
  pub d : Source
  pub is : slice_get tasks i ≡ Some (Eval slot n a b c d)

-- the numbers of the memories of port p, in their order
abbrev pub ArePortMemories : NodeNet → Homes → ℕ → List ℕ → Type 0
ArePortMemories nodes homes p numbers = Lists (λ m. (m < length nodes.blocks) × (block_home homes m ≡ p)) numbers

-- these are the memories of port p, in their order, and each output bit names its memory among them
pub record AreBlocksOf (nodes : NodeNet) (homes : Homes) (image : Image) (claims : List (List ℕ)) (p : ℕ) (ins : List LinkIn) (blocks : List BlockWork) (outs : List OutBit) : Type 0 where
  pub numbers : List ℕ
  pub lists : ArePortMemories nodes homes p numbers
  pub as_many : length blocks ≡ length numbers
  pub each : (k m : ℕ) (block : BlockWork) (memory : NodeBlock) → slice_get blocks k ≡ Some block → slice_get numbers k ≡ Some m → slice_get nodes.blocks m ≡ Some memory → MemoryImplements image claims p ins block memory
  pub bits : (i x m bit : ℕ) (out : OutBit) → slice_get outs i ≡ Some out → IsClaim claims p i x → slice_get nodes.items x ≡ Some (BlockBit m bit) → slice_get numbers out.block ≡ Some m

-- logic ports come first, then array ports, then the host; tables and memories stand in order
abbrev pub IsOrdered : NodeNet → Homes → Image → List (List ℕ) → ℕ → List LinkIn → Work → Type 0
IsOrdered nodes homes image claims p ins (Logic tables tasks) = (p < homes.logic) × AreInOrderOfUse (Evaluates tasks) tables
IsOrdered nodes homes image claims p ins (Array blocks outs) =
    (homes.logic ≤ p) × (p < host_of homes) × AreBlocksOf nodes homes image claims p ins blocks outs
IsOrdered nodes homes image claims p ins (Host inputs printed) = p ≡ host_of homes

-- ---- links

abbrev pub link_out : Sending → LinkOut
link_out sending = record { slot = sending.slot; readers = sending.readers }

abbrev pub link_in : Receipt → LinkIn
link_in receipt = record { slot = receipt.slot; sender = receipt.sender }

-- the port sends and receives what the switch says
pub record AreLinksOf (links : PortLinks) (port : PortImage) : Type 0 where
  pub outs : port.outs ≡ map link_out links.sends
  pub ins : port.ins ≡ map link_in links.receipts

-- ---- the whole image

-- the image is what is built for these items in this plan
pub record IsBuilt (nodes : NodeNet) (homes : Homes) (plan : Plan) (switch : Switch) (timing : Timing) (image : Image) : Type 0 where
  pub fits : IsWellFormed image
  pub slots : image.slots ≡ plan.needed
  -- it matches the items, each of which stands at its home in its slot
  pub claims : List (List ℕ)
  pub planned : ArePlanClaims nodes homes plan.slots claims
  pub placed : (p : ℕ) (port : PortImage) → IsPort image p port → item_slots port.work ≡ map (slot_of plan.slots) (claims_of claims p)
  pub matches : Matches image claims nodes timing
  pub ordered : (p : ℕ) (port : PortImage) → IsPort image p port → IsOrdered nodes homes image claims p port.ins port.work
  pub links : (p : ℕ) (port : PortImage) (links : PortLinks) → IsPort image p port → slice_get switch.ports p ≡ Some links → AreLinksOf links port

-- at every turn the image has each item's value at the item's home and slot, and the cells that it
-- shows for a cycle, counted from 1, are the printed items' values at the cycle's last turn
pub record GivesItems (nodes : NodeNet) (homes : Homes) (plan : Plan) (timing : Timing) (stimulus : Stimulus) (values : List State) (image : Image) : Type 0 where
  pub places : (turn x : ℕ) (items : State) → slice_get values turn ≡ Some items → x < length nodes.items → image_value image stimulus turn (home_of homes x) (slot_of plan.slots x) ≡ value_at items.row x
  pub cells : (c j x : ℕ) (items : State) → slice_get values (c * timing.units) ≡ Some items → slice_get nodes.printed j ≡ Some x → shown image stimulus c j ≡ value_at items.row x
