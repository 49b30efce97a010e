-- Which items are those of a netlist: each by what it stands for, in no order of construction.
use Rattle.std.specs.Prelude.{◌≡◌, ℕ, ◌+◌, ◌-◌, ◌<◌, ◌≤◌, nat_lt, Bool, ◌&&◌, if◌then◌else◌, List, [], ◌∷◌, length, Option, Some, None, slice_get, slice_index, slice_index_or}
use Rattle.logic_four.specs.{declared.V4.TheVariants.Zero, declared.Kind.Kind, Folds.base_kind}
use Rattle.net_defs.specs.declared.{netlist.Netlist.Netlist, netlist.Signal.Signal, netlist.Block.Block, netlist.Driver.Driver, timing.Timing.Timing}
use Rattle.net_defs.specs.Steps.{is_late}
use Rattle.net_defs.specs.declared.netlist.Driver.TheVariants as driver
use Rattle.func_table.specs.{declared.table.Table.Table, Entries.IsTableOf}
use Rattle.node_defs.specs.declared.items.Item.TheVariants.{Input, BlockBit, Node, Latch}
use Rattle.node_defs.specs.declared.{groups.Group.Group, items.Tag.Tag, items.Tag.TheVariants.This, items.Tag.TheVariants.Last, items.Feed.Feed}
use Rattle.node_defs.specs.declared.items.{Feed.TheVariants.From, Feed.TheVariants.Fixed, Feeds.Feeds, Item.Item, ItemName.ItemName, NodeBlock.NodeBlock}
use Rattle.node_defs.specs.Groups.{group_at, helper_count}

-- ---- names

-- the name of the item that stands for a signal
abbrev pub own : ℕ → ItemName
own s = record { signal = s; helper = None }

-- the name of a helper of the gate that drives a signal
abbrev pub helper_of : ℕ → ℕ → ItemName
helper_of s h = record { signal = s; helper = Some h }

-- item x has this name
abbrev pub IsNamed : List ItemName → ℕ → ItemName → Type 0
IsNamed names x name = slice_get names x ≡ Some name

-- ---- nodes

-- the name of a wire of gate s: that of an operand, or of a helper
abbrev pub wire_name : ℕ → List ℕ → ℕ → ItemName
wire_name s ops w = if nat_lt w (length ops) then own (slice_index ops w) else helper_of s (w - length ops)

-- a late gate takes its own operands from the last turn; all other wires are of this turn
abbrev pub wire_tag : Bool → List ℕ → ℕ → Tag
wire_tag late ops w = if late && nat_lt w (length ops) then Last else This

-- the operand at a place of four
abbrev pub feed_at : Feeds → ℕ → Feed
feed_at feeds i = slice_index_or (feeds.a ∷ feeds.b ∷ feeds.c ∷ feeds.d ∷ []) i (Fixed Zero)

-- a node of this kind over a group of the wires of gate s; operands past the group are fixed at 0
pub record IsNode (names : List ItemName) (tables : List Table) (late : Bool) (s : ℕ) (ops : List ℕ) (kind : Kind) (group : Group) (item : Item) : Type 0 where
  pub table : ℕ
  pub feeds : Feeds
  pub is : item ≡ Node table feeds
  pub answers : (t : Table) × (slice_get tables table ≡ Some t) × IsTableOf kind group.size t
  pub used : (i : ℕ) → i < group.size → (x : ℕ) × IsNamed names x (wire_name s ops (group.first + i)) × (feed_at feeds i ≡ From x (wire_tag late ops (group.first + i)))
  pub unused : (i : ℕ) → group.size ≤ i → feed_at feeds i ≡ Fixed Zero

-- the item of gate s that stands for the signal itself, or for a helper: the own node, whose group is
-- the last, inverts where the kind does
abbrev pub IsGateItem : List ItemName → List Table → Bool → ℕ → List ℕ → Kind → Option ℕ → Item → Type 0
IsGateItem names tables late s ops kind None item =
    IsNode names tables late s ops kind (group_at (length ops) (helper_count (length ops))) item
IsGateItem names tables late s ops kind (Some h) item =
    (h < helper_count (length ops)) × IsNode names tables late s ops (base_kind kind) (group_at (length ops) h) item

-- ---- items

-- the item that this driver gives signal s, by the helper that it stands for
abbrev pub IsItemOf : List ItemName → List Table → Bool → ℕ → Driver → Option ℕ → Item → Type 0
IsItemOf names tables late s driver.Input helper item = (helper ≡ None) × (item ≡ Input s)
IsItemOf names tables late s (driver.Gate kind ops) helper item = IsGateItem names tables late s ops kind helper item
IsItemOf names tables late s (driver.Dff op) helper item = (helper ≡ None) × (x : ℕ) × IsNamed names x (own op) × (item ≡ Latch x)
IsItemOf names tables late s (driver.BlockBit block bit) helper item = (helper ≡ None) × (item ≡ BlockBit block bit)

-- the item is what its name says
abbrev pub IsItem : Netlist → Timing → List ItemName → List Table → ItemName → Item → Type 0
IsItem net timing names tables name item = of_signal (slice_get net.signals name.signal) where
  of_signal : Option Signal → Type 0
  of_signal None = ⊥
  of_signal (Some signal) = IsItemOf names tables (is_late net timing name.signal) name.signal signal.driver name.helper item

-- the number of helpers of what drives a signal
abbrev pub helpers_of : Driver → ℕ
helpers_of driver.Input = 0
helpers_of (driver.Gate kind ops) = helper_count (length ops)
helpers_of (driver.Dff op) = 0
helpers_of (driver.BlockBit block bit) = 0

-- the signal itself, or one of so many helpers
abbrev pub IsAmong : ℕ → Option ℕ → Type 0
IsAmong count None = Unit {0}
IsAmong count (Some h) = h < count

-- each signal and each helper has one item
pub record AreNames (net : Netlist) (names : List ItemName) : Type 0 where
  pub whole : (s : ℕ) (signal : Signal) (helper : Option ℕ) → slice_get net.signals s ≡ Some signal → IsAmong (helpers_of signal.driver) helper → (x : ℕ) × IsNamed names x (record { signal = s; helper = helper })
  pub once : (x y : ℕ) (name : ItemName) → IsNamed names x name → IsNamed names y name → x ≡ y

-- ---- what is printed, and memories

-- the items of these numbers stand for these signals, one for one
pub record StandFor (names : List ItemName) (numbers signals : List ℕ) : Type 0 where
  pub each : length numbers ≡ length signals
  pub named : (i s : ℕ) → slice_get signals i ≡ Some s → IsNamed names (slice_index numbers i) (own s)

-- the memory, by the numbers of its items
pub record IsNodeBlock (names : List ItemName) (memory : Block) (block : NodeBlock) : Type 0 where
  pub we : IsNamed names block.we (own memory.we)
  pub address : StandFor names block.address memory.address
  pub word : StandFor names block.word memory.word
