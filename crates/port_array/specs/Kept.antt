-- What an array processor keeps in a lane: its memories hold the words that the image has.
use Rattle.std.specs.Prelude.{◌≡◌, ℕ, ◌-◌, ◌≤◌, true, if◌then◌else◌, List, Some, slice_get}
use Rattle.net_defs.specs.Time.{is_edge}
use Rattle.image_defs.specs.declared.image.{BlockWork.BlockWork, OutBit.OutBit, PortImage.PortImage, Work.TheVariants.Array}
use Rattle.image_defs.specs.{Places.IsPort, WellFormed.IsWellFormed, Steps.block_act, Frames.frame, Ports.PortView}
use Rattle.port_bank.specs.Reads.{past_in}
use Rattle.port_array.specs.Acts.{LaneMemory, AreFit}

-- the turn whose words the memories hold: this one once it has begun
abbrev pub words_turn : PortView → ℕ
words_turn view = if view.begun then view.turn else view.turn - 1

-- the plain array processor of a lane
pub record LaneArray : Type 0 where
  pub bank : PortView
  pub blocks : List BlockWork
  pub bits : List OutBit
  pub memories : List LaneMemory

pub record IsReady (a : LaneArray) : Type 0 where
  pub image : IsWellFormed a.bank.image
  pub first : 1 ≤ a.bank.turn
  pub port_image : PortImage
  pub is : IsPort a.bank.image a.bank.port port_image
  pub work : port_image.work ≡ Array a.blocks a.bits
  pub fit : AreFit a.blocks a.memories
  pub words : (b : ℕ) (block : BlockWork) (memory : LaneMemory) → slice_get a.blocks b ≡ Some block → slice_get a.memories b ≡ Some memory
      → memory.cells ≡ (frame a.bank.image a.bank.stimulus (words_turn a.bank)).words a.bank.port b
  -- what each memory answered at the edge of this turn
  pub outs : a.bank.begun ≡ true → is_edge a.bank.image.units a.bank.turn ≡ true → (b : ℕ) (block : BlockWork) (memory : LaneMemory) → slice_get a.blocks b ≡ Some block → slice_get a.memories b ≡ Some memory
      → memory.outs ≡ (block_act a.bank.port port_image.ins (past_in a.bank).value block ((past_in a.bank).words a.bank.port b)).outputs
