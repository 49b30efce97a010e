-- The readers of every item.
use Rattle.std.specs.Prelude.{◌≡◌, ℕ, List, length, Some, slice_get}
use Rattle.node_defs.specs.declared.items.NodeNet.{NodeNet}
use Rattle.plan_defs.specs.{declared.plan.Homes.Homes, declared.readers.Readers.Readers, Readers.IsReaderList}

-- one list for each item, in item order: its readers
pub record AreReaders (nodes : NodeNet) (homes : Homes) (readers : Readers) : Type 0 where
  pub items : length readers.lists ≡ length nodes.items
  pub each : (i : ℕ) (ports : List ℕ) → slice_get readers.lists i ≡ Some ports → IsReaderList nodes homes i ports
