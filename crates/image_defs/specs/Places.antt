-- Where the items of an image stand, and whom a port receives from.
use Rattle.std.specs.Prelude.{◌≡◌, ℕ, ◌==◌, ◌-◌, List, [], length, map, Some, slice_get, unwrap_or}
use Rattle.std.specs.{List.find, Option.option_map}
use Rattle.image_defs.specs.declared.image.{Source.Source, Task.Task, Task.TheVariants.Eval, Task.TheVariants.Hold, BlockWork.BlockWork, Work.Work}
use Rattle.image_defs.specs.declared.image.{Work.TheVariants.Logic, Work.TheVariants.Array, Work.TheVariants.Host, LinkIn.LinkIn, LinkOut.LinkOut}
use Rattle.image_defs.specs.declared.image.{PortImage.PortImage, Image.Image}

-- it holds of each member of a list, by its place and value
abbrev pub Each : {X : Type 0} → (X → Type 0) → List X → Type 0
Each {X} P xs = (i : ℕ) (x : X) → slice_get xs i ≡ Some x → P x

-- it stands at some place of the list
abbrev pub Stands : {X : Type 0} → List X → X → Type 0
Stands xs x = (i : ℕ) × (slice_get xs i ≡ Some x)

abbrev pub task_slot : Task → ℕ
task_slot (Eval slot table a b c d) = slot
task_slot (Hold slot from) = slot

-- the slots of a port's items, in their order
abbrev pub item_slots : Work → List ℕ
item_slots (Logic tables tasks) = map task_slot tasks
item_slots (Array blocks outs) = map (λ out. out.slot) outs
item_slots (Host inputs printed) = map (λ input. input.slot) inputs

-- the memories of a port; only an array port has any
abbrev pub blocks_of : Work → List BlockWork
blocks_of (Logic tables tasks) = []
blocks_of (Array blocks outs) = blocks
blocks_of (Host inputs printed) = []

-- the sources that are printed; only the host has any
abbrev pub printed_of : Work → List Source
printed_of (Logic tables tasks) = []
printed_of (Array blocks outs) = []
printed_of (Host inputs printed) = printed

-- the slots in which a port receives, and those in which it sends
abbrev pub in_slots : List LinkIn → List ℕ
in_slots ins = map (λ link. link.slot) ins

abbrev pub out_slots : List LinkOut → List ℕ
out_slots outs = map (λ link. link.slot) outs

-- port number p of the image
abbrev pub IsPort : Image → ℕ → PortImage → Type 0
IsPort image p port = slice_get image.ports p ≡ Some port

-- item number i of this work stands in this slot
abbrev pub IsItemIn : Work → ℕ → ℕ → Type 0
IsItemIn work i slot = slice_get (item_slots work) i ≡ Some slot

-- memory number b of port p
pub record IsBlockOf (image : Image) (p b : ℕ) (port : PortImage) (block : BlockWork) : Type 0 where
  pub port_is : IsPort image p port
  pub block_is : slice_get (blocks_of port.work) b ≡ Some block

-- the sender of what a port receives in a slot, and 0 where it receives nothing
unfoldable pub sender_in : List LinkIn → ℕ → ℕ
sender_in ins slot = unwrap_or (option_map (λ link. link.sender) (find (λ link. link.slot == slot) ins)) 0

-- the number of the host, which is the last port
abbrev pub host_of : Image → ℕ
host_of image = length image.ports - 1
