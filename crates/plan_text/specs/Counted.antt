-- What a report counts over the whole plan.
use Rattle.std.specs.Prelude.{◌≡◌, ℕ, ◌+◌, ◌<◌, ◌==◌, List, [], length, count_by, slice_index, slice_index_or}
use Rattle.std.specs.List.{sum_by, range_with_len}
use Rattle.node_defs.specs.declared.items.NodeNet.{NodeNet}
use Rattle.plan_defs.specs.{declared.plan.Homes.Homes, Homes.ports_of, Lists.Counts, Picks.bits_before, Readers.IsReader, Readers.IsReaderList, Slots.slot_of}
use Rattle.plan_defs.specs.Tables.{UsesTables}
use Rattle.plan_text.specs.declared.figures.Figures.{Figures}

-- how many items are at the port
abbrev pub items_at : Homes → ℕ → ℕ
items_at homes port = count_by (λ home. home == port) homes.items

-- the bits of all memories at the port
abbrev pub bits_at : NodeNet → Homes → ℕ → ℕ
bits_at nodes homes port = bits_before nodes homes.blocks (length nodes.blocks) port

-- the port receives in this slot: an item that it reads has the slot
pub record Receives (nodes : NodeNet) (homes : Homes) (slots : List ℕ) (port slot : ℕ) : Type 0 where
  pub item : ℕ
  pub within : item < length nodes.items
  pub reads : IsReader nodes homes item port
  pub at : slot_of slots item ≡ slot

-- for each port how many items are at it and in how many slots it receives, for each logic port how many
-- different tables its nodes use, for each array port how many bits its memories take, and the readers of
-- each item in port order
pub record AreFigures (nodes : NodeNet) (homes : Homes) (slots : List ℕ) (figures : Figures) : Type 0 where
  pub items : (port : ℕ) → port < ports_of homes → slice_index figures.items port ≡ items_at homes port
  pub tables : (port : ℕ) → port < homes.logic → UsesTables nodes homes port (slice_index figures.tables port)
  pub bits : (a : ℕ) → a < homes.array → slice_index figures.bits a ≡ bits_at nodes homes (homes.logic + a)
  pub takes : (port : ℕ) → port < ports_of homes → Counts (Receives nodes homes slots port) (slice_index figures.takes port)
  pub readers : (i : ℕ) → i < length nodes.items → IsReaderList nodes homes i (slice_index_or figures.readers.lists i [])

-- there is a number for each port, for each logic port and for each array port
pub record HasPorts (homes : Homes) (figures : Figures) : Type 0 where
  pub items : length figures.items ≡ ports_of homes
  pub tables : length figures.tables ≡ homes.logic
  pub bits : length figures.bits ≡ homes.array
  pub takes : length figures.takes ≡ ports_of homes

-- so many pairs of an item and one of its readers
pub record AreCrossings (nodes : NodeNet) (homes : Homes) (count : ℕ) : Type 0 where
  -- the readers of each item
  pub readers : ℕ → List ℕ
  pub are : (i : ℕ) → i < length nodes.items → IsReaderList nodes homes i (readers i)
  pub is : count ≡ sum_by (λ i. length (readers i)) (range_with_len 0 (length nodes.items))
