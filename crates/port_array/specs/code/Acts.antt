-- Beside specs/Acts.antt, what only private functions and proofs cite.
use Rattle.std.specs.Prelude.{◌≡◌, ℕ, ◌<◌, ◌≤◌, List, length, map, Some, slice_get}
use Rattle.limits.specs.declared.TheConstants.{MAX_ADDRESS_BITS, MAX_WORD_BITS}
use Rattle.logic_four.specs.{declared.V4.V4, Values.value_at, Memory.memory_act, Memory.MemoryAct, Memory.initial_words}
use Rattle.image_defs.specs.declared.image.{Source.Source, BlockWork.BlockWork, OutBit.OutBit, PortImage.PortImage}
use Rattle.image_defs.specs.{Places.Each, Places.IsPort, WellFormed.IsPast, Steps.value_of_member, Steps.past_value, Ports.PortView}
use Rattle.port_bank.specs.{Flat.IsWithin, Reads.past_in}
use Rattle.port_array.specs.Acts.{LaneMemory, FitsMemory}

-- what a source of the port had in the last turn
abbrev pub past_of : PortView → Source → V4
past_of view source =
    value_of_member (λ port. past_value view.port port.ins (past_in view).value source) (slice_get view.image.ports view.port)

-- a source of the port, of the last turn
pub record IsPastAt (view : PortView) (source : Source) : Type 0 where
  pub port : PortImage
  pub is : IsPort view.image view.port port
  pub past : IsPast port source
  pub within : IsWithin view.image.slots source

-- a memory reads such sources
pub record ReadsPast (view : PortView) (block : BlockWork) : Type 0 where
  pub we : IsPastAt view block.we
  pub address : Each (IsPastAt view) block.address
  pub word : Each (IsPastAt view) block.word

-- what it does at an edge
abbrev pub act_at : PortView → BlockWork → List (List V4) → MemoryAct
act_at view block words = memory_act words (past_of view block.we) (map (past_of view) block.address) (map (past_of view) block.word)

pub record HasFewBits (block : BlockWork) : Type 0 where
  pub address : length block.address ≤ MAX_ADDRESS_BITS
  pub word : length block.word ≤ MAX_WORD_BITS

-- it is a memory before the first edge, with v in every bit
pub record IsFirst (v : V4) (block : BlockWork) (memory : LaneMemory) : Type 0 where
  pub fits : FitsMemory block memory
  pub words : memory.cells ≡ initial_words (length block.address) (length block.word) v

-- it went through an edge
pub record Acted (view : PortView) (block : BlockWork) (old new : LaneMemory) : Type 0 where
  pub words : new.cells ≡ (act_at view block old.cells).words
  pub outputs : new.outs ≡ (act_at view block old.cells).outputs

-- an output bit is one of a memory that is there
pub record FitsBit (memories : List LaneMemory) (bit : OutBit) : Type 0 where
  pub memory : bit.block < length memories
  pub within : (memory : LaneMemory) → slice_get memories bit.block ≡ Some memory → bit.bit < length memory.outs

-- what its memory answered for it
abbrev pub answered_bit : List LaneMemory → OutBit → V4
answered_bit memories bit = value_of_member (λ memory. value_at memory.outs bit.bit) (slice_get memories bit.block)

pub record AreFirst (v : V4) (blocks : List BlockWork) (memories : List LaneMemory) : Type 0 where
  pub long : length memories ≡ length blocks
  pub each : (b : ℕ) (block : BlockWork) (memory : LaneMemory) → slice_get blocks b ≡ Some block → slice_get memories b ≡ Some memory → IsFirst v block memory

-- the first n went through an edge, and the others stayed
pub record AreActed (view : PortView) (blocks : List BlockWork) (n : ℕ) (old new : List LaneMemory) : Type 0 where
  pub acted : (b : ℕ) (block : BlockWork) (one other : LaneMemory) → b < n → slice_get blocks b ≡ Some block → slice_get old b ≡ Some one → slice_get new b ≡ Some other → Acted view block one other
  pub rest : (b : ℕ) (memory : LaneMemory) → n ≤ b → slice_get new b ≡ Some memory → slice_get old b ≡ Some memory
