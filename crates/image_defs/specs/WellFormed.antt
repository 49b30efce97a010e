-- Well-formed images, by plain facts.
use Rattle.std.specs.Prelude.{◌≡◌, ◌≢◌, ◌↔◌, ℕ, ◌+◌, ◌<◌, ◌≤◌, Bool, true, false, List, length, Some, slice_get}
use Rattle.std.specs.List.Sorted.{IsStrictlyIncreasing}
use Rattle.limits.specs.declared.TheConstants.{MAX_SLOTS, MAX_UNITS, MAX_PORTS, MAX_ADDRESS_BITS, MAX_WORD_BITS}
use Rattle.image_defs.specs.Places.{Each, Stands, item_slots, in_slots, out_slots, IsPort}
use Rattle.image_defs.specs.declared.image.{Source.Source, Source.TheVariants.Own, Source.TheVariants.Got, Source.TheVariants.Const, Task.Task}
use Rattle.image_defs.specs.declared.image.{Task.TheVariants.Eval, Task.TheVariants.Hold, BlockWork.BlockWork, OutBit.OutBit, Work.Work}
use Rattle.image_defs.specs.declared.image.{Work.TheVariants.Logic, Work.TheVariants.Array, Work.TheVariants.Host, LinkIn.LinkIn, LinkOut.LinkOut}
use Rattle.image_defs.specs.declared.image.{PortImage.PortImage, Image.Image}

-- ---- sources

-- the port has an item, or receives, in the slot that the source names
abbrev pub IsThere : PortImage → Source → Type 0
IsThere port (Own slot last) = Stands (item_slots port.work) slot
IsThere port (Got slot last) = Stands (in_slots port.ins) slot
IsThere port (Const v) = Unit {0}

-- what it takes of this turn is in a slot before this one
abbrev pub IsBefore : ℕ → Source → Type 0
IsBefore slot (Own s last) = last ≡ false → s < slot
IsBefore slot (Got s last) = last ≡ false → s < slot
IsBefore slot (Const v) = Unit {0}

-- its flag `last` is this one; a constant has none
abbrev pub IsOfLast : Bool → Source → Type 0
IsOfLast said (Own s last) = last ≡ said
IsOfLast said (Got s last) = last ≡ said
IsOfLast said (Const v) = Unit {0}

-- an operand of a task in this slot
pub record IsOperand (port : PortImage) (slot : ℕ) (source : Source) : Type 0 where
  pub there : IsThere port source
  pub before : IsBefore slot source

-- a source of the last turn
pub record IsPast (port : PortImage) (source : Source) : Type 0 where
  pub there : IsThere port source
  pub last : IsOfLast true source

-- a source of this turn
pub record IsPresent (port : PortImage) (source : Source) : Type 0 where
  pub there : IsThere port source
  pub last : IsOfLast false source

-- ---- what a port does

-- a task of a port with so many tables
abbrev pub IsTask : PortImage → ℕ → Task → Type 0
IsTask port tables (Eval slot table a b c d) =
    (table < tables) × IsOperand port slot a × IsOperand port slot b × IsOperand port slot c × IsOperand port slot d
IsTask port tables (Hold slot from) = IsPast port from

-- a memory reads sources of the last turn, by 1 to 16 address bits and 1 to 64 data bits
pub record IsBlock (port : PortImage) (block : BlockWork) : Type 0 where
  pub we : IsPast port block.we
  pub address : Each (IsPast port) block.address
  pub address_bits : (1 ≤ length block.address) × (length block.address ≤ MAX_ADDRESS_BITS)
  pub word : Each (IsPast port) block.word
  pub word_bits : (1 ≤ length block.word) × (length block.word ≤ MAX_WORD_BITS)

-- an output bit is one of a memory's
abbrev pub IsBit : List BlockWork → OutBit → Type 0
IsBit blocks out = (block : BlockWork) × (slice_get blocks out.block ≡ Some block) × (out.bit < length block.word)

-- what a port does names only what is there
abbrev pub IsWork : ℕ → PortImage → Work → Type 0
IsWork columns port (Logic tables tasks) = Each (IsTask port (length tables)) tasks
IsWork columns port (Array blocks outs) = Each (IsBlock port) blocks × Each (IsBit blocks) outs
IsWork columns port (Host inputs printed) = Each (λ input. input.column < columns) inputs × Each (IsPresent port) printed

abbrev pub IsLogic : Work → Type 0
IsLogic (Logic tables tasks) = Unit {0}
IsLogic (Array blocks outs) = ⊥
IsLogic (Host inputs printed) = ⊥

abbrev pub IsArray : Work → Type 0
IsArray (Logic tables tasks) = ⊥
IsArray (Array blocks outs) = Unit {0}
IsArray (Host inputs printed) = ⊥

abbrev pub IsHost : Work → Type 0
IsHost (Logic tables tasks) = ⊥
IsHost (Array blocks outs) = ⊥
IsHost (Host inputs printed) = Unit {0}

-- ---- links

-- port p receives in this slot from this sender
pub record ReceivesFrom (image : Image) (p slot sender : ℕ) : Type 0 where
  pub port : PortImage
  pub is : IsPort image p port
  pub receives : Stands port.ins (record { slot = slot; sender = sender })

-- a link out of port p: an item's value, to other ports, each of which receives it
pub record IsLinkOut (image : Image) (p : ℕ) (port : PortImage) (link : LinkOut) : Type 0 where
  pub item : Stands (item_slots port.work) link.slot
  pub some : 1 ≤ length link.readers
  pub rising : IsStrictlyIncreasing link.readers
  pub other : Each (λ r. r ≢ p) link.readers
  pub received : Each (λ r. ReceivesFrom image r link.slot p) link.readers

-- a link in of port p: its sender sends in its slot, and p is one of the readers
pub record IsLinkIn (image : Image) (p : ℕ) (link : LinkIn) : Type 0 where
  pub sender : PortImage
  pub is : IsPort image link.sender sender
  pub sent : LinkOut
  pub sends : Stands sender.outs sent
  pub slot : sent.slot ≡ link.slot
  pub reads : Stands sent.readers p

-- ---- ports and images

-- port p: its items and its links stand in ascending slots of a turn, and name what is there
pub record IsPortImage (image : Image) (p : ℕ) (port : PortImage) : Type 0 where
  pub items : IsStrictlyIncreasing (item_slots port.work)
  pub item_slots_within : Each (λ slot. slot < image.slots) (item_slots port.work)
  pub work : IsWork image.columns port port.work
  pub outs : IsStrictlyIncreasing (out_slots port.outs)
  pub sends : Each (IsLinkOut image p port) port.outs
  pub ins : IsStrictlyIncreasing (in_slots port.ins)
  pub in_slots_within : Each (λ slot. slot < image.slots) (in_slots port.ins)
  pub receives : Each (IsLinkIn image p) port.ins

-- a well-formed image
pub record IsWellFormed (image : Image) : Type 0 where
  pub slots : image.slots ≤ MAX_SLOTS
  pub units : (1 ≤ image.units) × (image.units ≤ MAX_UNITS)
  pub some_ports : 1 ≤ length image.ports
  pub most_ports : length image.ports ≤ MAX_PORTS
  pub ports : (p : ℕ) (port : PortImage) → IsPort image p port → IsPortImage image p port
  -- the last port is the host, and no other is
  pub host : (p : ℕ) (port : PortImage) → IsPort image p port → IsHost port.work ↔ (p + 1 ≡ length image.ports)

-- port p is of this kind
pub record IsPortOf (image : Image) (p : ℕ) (IsKind : Work → Type 0) : Type 0 where
  pub port : PortImage
  pub is : IsPort image p port
  pub kind : IsKind port.work
