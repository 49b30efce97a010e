-- A memory of a port against a memory of the items.
use Rattle.std.specs.Prelude.{◌≡◌, ℕ, List, Some, slice_get}
use Rattle.node_defs.specs.declared.items.NodeBlock.{NodeBlock}
use Rattle.image_defs.specs.{declared.image.BlockWork.BlockWork, Matches.MemoryImplements, Claimed.lists_of}
use Rattle.image_check.specs.declared.{claims.OnePort.OnePort, memories.Pair.Pair}

-- the memory of this number is there, and has the operands of the port's
pub record IsMemory (one : OnePort) (block : BlockWork) (memories : List NodeBlock) (m : ℕ) : Type 0 where
  pub memory : NodeBlock
  pub is : slice_get memories m ≡ Some memory
  pub same : MemoryImplements one.file.now.image (lists_of one.file.now.claims) one.number one.port.now.ins block memory

-- both memories are there, and have the same operands
pub record IsMemoryAt (one : OnePort) (blocks : List BlockWork) (memories : List NodeBlock) (b m : ℕ) : Type 0 where
  pub block : BlockWork
  pub is : slice_get blocks b ≡ Some block
  pub other : IsMemory one block memories m

-- the memories of these numbers are there, and have the same operands
abbrev pub AreSameMemories : OnePort → List BlockWork → List NodeBlock → Pair → Type 0
AreSameMemories one blocks memories pair = IsMemoryAt one blocks memories pair.block pair.memory
