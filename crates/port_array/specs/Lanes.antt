-- The memories of an array processor with as many lanes as a word has: in each lane those of a plain one, with words
-- of its own.
use Rattle.std.specs.Prelude.{◌≡◌, ℕ, ◌<◌, List, [], length, map, Some, slice_get, slice_index_or}
use Rattle.image_defs.specs.declared.image.{BlockWork.BlockWork, OutBit.OutBit, PortImage.PortImage, Work.TheVariants.Array}
use Rattle.image_defs.specs.{Places.IsPort, Ports.View, Ports.lane_port}
use Rattle.port_bank.specs.declared.word.Word as word
use Rattle.port_bank.specs.Places.{lane_values}
use Rattle.port_array.specs.{declared.memory.MemoryState.MemoryState, Acts.LaneMemory, Acts.FitsMemory, Kept.LaneArray}
use Rattle.port_array.specs.Kept as plain

-- how far its bank has come, its work, and its memories
pub record Parts (W S : Type 0) : Type 0 where
  pub bank : View S
  pub blocks : List BlockWork
  pub bits : List OutBit
  pub memories : List (MemoryState W)

module _ {W P F S : Type 0} (w : word.Ghosts W P F S) where
  -- the plain memory of a lane
  abbrev pub lane_memory : ℕ → MemoryState W → LaneMemory
  lane_memory l memory = record {
    cells = slice_index_or memory.cells l [];
    address = memory.address;
    word = memory.word;
    outs = lane_values w.lane l memory.outs;
  }

  -- the plain memories of a lane
  abbrev pub lane_memories : ℕ → List (MemoryState W) → List LaneMemory
  lane_memories l memories = map (lane_memory l) memories

  -- the plain array processor of a lane
  abbrev pub lane_array : ℕ → Parts W S → LaneArray
  lane_array l a = record { bank = lane_port w.stimulus l a.bank; blocks = a.blocks; bits = a.bits; memories = lane_memories l a.memories }

  -- there is a memory for each lane, of the shape and with the room that the work wants
  pub record IsWhole (block : BlockWork) (memory : MemoryState W) : Type 0 where
    pub lanes : length memory.cells ≡ w.lanes
    pub answers : length memory.answers ≡ length block.word
    pub fits : (l : ℕ) → l < w.lanes → FitsMemory block (lane_memory l memory)

  pub record AreWhole (blocks : List BlockWork) (memories : List (MemoryState W)) : Type 0 where
    pub long : length memories ≡ length blocks
    pub each : (b : ℕ) (block : BlockWork) (memory : MemoryState W) → slice_get blocks b ≡ Some block → slice_get memories b ≡ Some memory → IsWhole block memory

  -- what it keeps: in each lane what a plain one keeps
  pub record IsReady (a : Parts W S) : Type 0 where
    pub port_image : PortImage
    pub is : IsPort a.bank.image a.bank.port port_image
    pub work : port_image.work ≡ Array a.blocks a.bits
    pub whole : AreWhole a.blocks a.memories
    pub each : (l : ℕ) → l < w.lanes → plain.IsReady (lane_array l a)
