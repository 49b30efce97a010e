-- Beside specs/Rams.antt, what only private functions and proofs cite.
use Rattle.std.specs.Prelude.{◌≡◌, ℕ, ◌+◌, ◌<◌, List, length, map, All}
use Rattle.logic_four.specs.{declared.V4.V4, Memory.memory_act, Memory.MemoryAct}
use Rattle.net_defs.specs.{declared.netlist.Block.Block, Time.value_at}

-- a memory that reads from a place on finds its operands among so many values, and its outputs too
pub record ReadsWithin (base count : ℕ) (memory : Block) : Type 0 where
  pub enable : base + memory.we < count
  pub address : All (λ s. base + s < count) memory.address
  pub word : All (λ s. base + s < count) memory.word
  pub outs : All (λ s. s < count) memory.outs
  pub bits : length memory.outs ≡ length memory.word

-- what it does by the values from there on
abbrev pub act_over : Block → ℕ → List V4 → List (List V4) → MemoryAct
act_over memory base values words =
    memory_act words (value_at values (base + memory.we)) (map (λ s. value_at values (base + s)) memory.address) (map (λ s. value_at values (base + s)) memory.word)
