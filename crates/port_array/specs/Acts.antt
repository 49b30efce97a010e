-- The memories of an array processor in a lane.
use Rattle.std.specs.Prelude.{◌≡◌, ℕ, List, length, Some, slice_get}
use Rattle.logic_four.specs.{declared.V4.V4, Memory.HasShape}
use Rattle.image_defs.specs.declared.image.BlockWork.{BlockWork}

-- a memory in a lane: its words, what it takes at an edge, and what it answered at the last one
pub record LaneMemory : Type 0 where
  pub cells : List (List V4)
  pub address : List V4
  pub word : List V4
  pub outs : List V4

-- a memory has the shape and the room that its work wants
pub record FitsMemory (block : BlockWork) (memory : LaneMemory) : Type 0 where
  pub shape : HasShape (length block.address) (length block.word) memory.cells
  pub address : length memory.address ≡ length block.address
  pub word : length memory.word ≡ length block.word
  pub outs : length memory.outs ≡ length block.word

-- ---- all memories of a port

pub record AreFit (blocks : List BlockWork) (memories : List LaneMemory) : Type 0 where
  pub long : length memories ≡ length blocks
  pub each : (b : ℕ) (block : BlockWork) (memory : LaneMemory) → slice_get blocks b ≡ Some block → slice_get memories b ≡ Some memory → FitsMemory block memory
