-- The names of items, and what an item is by its name.
use Rattle.std.proofs.Common.{◌≡◌, ℕ, ◌<◌, length, get_or, Option, ap₂, arith, refl}
use Rattle.std.proofs.lemmas.Option.{slice_get-get_or, slice_get_within}
use Rattle.std.specs.Prelude.{Some, None, slice_get}
use Rattle.net_defs.specs.{declared.netlist.Netlist.Netlist, declared.timing.Timing.Timing, declared.netlist.Signal.Signal, Steps.is_late}
use Rattle.node_defs.specs.Items.{own, IsNamed, IsItem, IsItemOf}
use Rattle.node_defs.specs.{declared.items.ItemName.ItemName, declared.items.NodeNet.NodeNet, Order.AreItems, declared.items.Item.Item}

-- the name of the item at a place
pub name_at : NodeNet → ℕ → ItemName
name_at nodes x = get_or nodes.names x (own 0)

pub name_there : (net : Netlist) (timing : Timing) (nodes : NodeNet) → AreItems net timing nodes → (x : ℕ) → x < length nodes.items → IsNamed nodes.names x (name_at nodes x)
unfolding name_at
name_there net timing nodes are x within = slice_get-get_or nodes.names x (own 0) (omega (arith, are.named, within))

abbrev named_by : ℕ → Option ℕ → ItemName
named_by s h = record { signal = s; helper = h }

-- names of the same parts are one
pub name_same : (one other : ItemName) → one.signal ≡ other.signal → one.helper ≡ other.helper → one ≡ other
name_same one other signal helper = ap₂ named_by signal helper

-- what the item at a place is, by the driver of its name's signal
pub record NamedItem (net : Netlist) (timing : Timing) (nodes : NodeNet) (x : ℕ) (item : Item) : Type 0 where
  pub signal : Signal
  pub is_signal : slice_get net.signals (name_at nodes x).signal ≡ Some signal
  pub is : IsItemOf nodes.names nodes.tables (is_late net timing (name_at nodes x).signal) (name_at nodes x).signal signal.driver (name_at nodes x).helper item

pub named_item : (net : Netlist) (timing : Timing) (nodes : NodeNet) → AreItems net timing nodes → (x : ℕ) (item : Item) → slice_get nodes.items x ≡ Some item → NamedItem net timing nodes x item
named_item net timing nodes are x item at = by_signal (slice_get net.signals (name_at nodes x).signal) refl where
  right : IsItem net timing nodes.names nodes.tables (name_at nodes x) item
  right = are.right x (name_at nodes x) item (name_there net timing nodes are x (slice_get_within nodes.items x item at)) at

  by_signal : (found : Option Signal) → slice_get net.signals (name_at nodes x).signal ≡ found → NamedItem net timing nodes x item
  by_signal None missing = absurd (rw missing at right)
  by_signal (Some signal) there = record { signal = signal; is_signal = there; is = rw there at right }
