-- Beside specs/Lanes.antt, what only private functions and proofs cite.
use Rattle.std.specs.Prelude.{◌≡◌, ℕ, ◌<◌, ◌≤◌, List, length, Some, slice_get}
use Rattle.logic_four.specs.{declared.V4.V4, Memory.initial_words}
use Rattle.image_defs.specs.{declared.image.BlockWork.BlockWork, Places.Each, Ports.View, Ports.lane_port}
use Rattle.port_bank.specs.declared.word.Word as word
use Rattle.port_array.specs.{declared.memory.MemoryState.MemoryState, code.Acts.ReadsPast, code.Acts.Acted, code.Acts.AreActed}
use Rattle.port_array.specs.Lanes as lanes

module _ {W P F S : Type 0} (w : word.Ghosts W P F S) where
  -- in every lane it is a memory before the first edge, with v in every bit
  pub record IsFirst (v : V4) (block : BlockWork) (memory : MemoryState W) : Type 0 where
    pub whole : lanes.IsWhole w block memory
    pub words : (l : ℕ) → l < w.lanes → (lanes.lane_memory w l memory).cells ≡ initial_words (length block.address) (length block.word) v

  -- this lane's words and answers stayed
  pub record Stays (l : ℕ) (old new : MemoryState W) : Type 0 where
    pub words : (lanes.lane_memory w l new).cells ≡ (lanes.lane_memory w l old).cells
    pub outputs : (lanes.lane_memory w l new).outs ≡ (lanes.lane_memory w l old).outs

  -- the first n lanes went through an edge, each by what the sources had there, and the words of the others
  -- stayed
  pub record HasActed (view : View S) (block : BlockWork) (n : ℕ) (old new : MemoryState W) : Type 0 where
    pub acted : (l : ℕ) → l < n → Acted (lane_port w.stimulus l view) block (lanes.lane_memory w l old) (lanes.lane_memory w l new)
    pub rest : (l : ℕ) → n ≤ l → l < w.lanes → (lanes.lane_memory w l new).cells ≡ (lanes.lane_memory w l old).cells

  -- all that the memories read is of the last turn
  abbrev pub ReadPast : View S → List BlockWork → Type 0
  ReadPast view blocks = (l : ℕ) → l < w.lanes → Each (ReadsPast (lane_port w.stimulus l view)) blocks

  pub record AreFirst (v : V4) (blocks : List BlockWork) (memories : List (MemoryState W)) : Type 0 where
    pub long : length memories ≡ length blocks
    pub each : (b : ℕ) (block : BlockWork) (memory : MemoryState W) → slice_get blocks b ≡ Some block → slice_get memories b ≡ Some memory → IsFirst v block memory

  -- in each lane the first n went through an edge, and the others stayed
  abbrev pub HaveActed : View S → List BlockWork → ℕ → List (MemoryState W) → List (MemoryState W) → Type 0
  HaveActed view blocks n old new =
      (l : ℕ) → l < w.lanes → AreActed (lane_port w.stimulus l view) blocks n (lanes.lane_memories w l old) (lanes.lane_memories w l new)
