use Rattle.std.proofs.Common.{◌≡◌, ℕ, length, slice_get, Some}
use Rattle.image_defs.specs.declared.image.BlockWork.{BlockWork}
use Rattle.port_array.specs.{declared.memory.MemoryState.MemoryState, code.Lanes.IsFirst}
use Rattle.port_array.proofs.memory.make_memories.Given as goal

abbrev pub invariant-each : goal.invariant-each
invariant-each g l = record {
  long : length l.memories ≡ l.block-index;
  first : (b : ℕ) (block : BlockWork) (memory : MemoryState _) → slice_get l.blocks b ≡ Some block → slice_get l.memories b ≡ Some memory → IsFirst g.W.Word l.v block memory;
}
