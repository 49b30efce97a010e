-- What each item has at each turn: equations between whole states, one for each item, in no order. A
-- state has a value for each item and the words of each memory.
use Rattle.std.specs.Prelude.{◌≡◌, ℕ, ◌+◌, if◌then◌else◌, List, length, map, Option, Some, None, slice_get, replicate}
use Rattle.logic_four.specs.{declared.V4.V4, declared.V4.TheVariants.Undef, Values.settled, Memory.memory_act, Memory.MemoryAct, Memory.initial_words}
use Rattle.net_defs.specs.Time.{turn_count, is_edge, initial_value, value_at, input_at}
use Rattle.net_defs.specs.Steps.{State, registered, values_of, words_of}
use Rattle.net_defs.specs.{declared.netlist.Netlist.Netlist, declared.timing.Timing.Timing, declared.stimulus.Stimulus.Stimulus, Reference.IsSimulation}
use Rattle.func_table.specs.Entries.{looked_up}
use Rattle.node_defs.specs.declared.items.Item.TheVariants.{Input, BlockBit, Node, Latch}
use Rattle.node_defs.specs.declared.items.{Tag.TheVariants.This, Tag.TheVariants.Last, Feed.Feed, Feed.TheVariants.From, Feed.TheVariants.Fixed, Item.Item}
use Rattle.node_defs.specs.{declared.items.NodeBlock.NodeBlock, declared.items.NodeNet.NodeNet, Items.own, Items.IsNamed}

-- what a memory does at an edge: it acts on what its operands had in the state before
abbrev pub block_act : State → NodeBlock → List (List V4) → MemoryAct
block_act old block words =
    memory_act words (value_at old.row block.we) (values_of old.row block.address) (values_of old.row block.word)

-- output bit number bit that a memory gives at an edge
abbrev pub block_bit : NodeNet → State → ℕ → ℕ → V4
block_bit nodes old m bit = option_bit (slice_get nodes.blocks m) where
  option_bit : Option NodeBlock → V4
  option_bit None = Undef
  option_bit (Some block) = value_at (block_act old block (words_of old m)).outputs bit

-- the value of an operand in a turn from the state old to the state new
abbrev pub feed_value : State → State → Feed → V4
feed_value old new (From x This) = value_at new.row x
feed_value old new (From x Last) = value_at old.row x
feed_value old new (Fixed v) = v

-- the value that an item has after a turn from the state old to the state new
abbrev pub item_value : NodeNet → Timing → Stimulus → ℕ → State → State → ℕ → Item → V4
item_value nodes timing stimulus turn old new x (Input column) = input_at timing stimulus turn column
item_value nodes timing stimulus turn old new x (BlockBit block bit) =
    registered timing turn (block_bit nodes old block bit) (value_at old.row x)
item_value nodes timing stimulus turn old new x (Node table feeds) =
    looked_up (slice_get nodes.tables table) (feed_value old new feeds.a) (feed_value old new feeds.b) (feed_value old new feeds.c) (feed_value old new feeds.d)
item_value nodes timing stimulus turn old new x (Latch op) =
    registered timing turn (settled (value_at old.row op)) (value_at old.row x)

-- the words of a memory after a turn
abbrev pub block_words_after : Timing → ℕ → State → NodeBlock → List (List V4) → List (List V4)
block_words_after timing turn old block words =
    if is_edge timing.units turn then (block_act old block words).words else words

-- new is a right step of the items in this turn from old
pub record IsItemStep (nodes : NodeNet) (timing : Timing) (stimulus : Stimulus) (turn : ℕ) (old new : State) : Type 0 where
  pub items : length new.row ≡ length nodes.items
  pub values : (x : ℕ) (item : Item) → slice_get nodes.items x ≡ Some item → value_at new.row x ≡ item_value nodes timing stimulus turn old new x item
  pub memories : length new.words ≡ length nodes.blocks
  pub words : (m : ℕ) (block : NodeBlock) → slice_get nodes.blocks m ≡ Some block → words_of new m ≡ block_words_after timing turn old block (words_of old m)

-- before turn 1 every item is undefined, and every word has the initial value
abbrev pub first_items : NodeNet → Timing → State
first_items nodes timing = record {
  row = replicate (length nodes.items) Undef;
  words = map (λ block. initial_words (length block.address) (length block.word) (initial_value timing.init)) nodes.blocks;
}

-- these states are the values of the items from turn 0 to the last turn
pub record AreItemValues (nodes : NodeNet) (timing : Timing) (stimulus : Stimulus) (states : List State) : Type 0 where
  pub turns : length states ≡ turn_count timing stimulus + 1
  pub first : slice_get states 0 ≡ Some (first_items nodes timing)
  pub steps : (turn : ℕ) (old new : State) → slice_get states turn ≡ Some old → slice_get states (turn + 1) ≡ Some new → IsItemStep nodes timing stimulus (turn + 1) old new

-- the items have values, and no others
pub record HaveOneRun (nodes : NodeNet) (timing : Timing) (stimulus : Stimulus) : Type 0 where
  pub states : List State
  pub exist : AreItemValues nodes timing stimulus states
  pub only : (others : List State) → AreItemValues nodes timing stimulus others → others ≡ states

-- the item values are those of a reference simulation: each item that stands for a signal has, at
-- each turn, the signal's value
pub record AreReferenceValues (net : Netlist) (timing : Timing) (stimulus : Stimulus) (nodes : NodeNet) (values : List State) : Type 0 where
  pub states : List State
  pub simulation : IsSimulation net timing stimulus states
  pub turns : length values ≡ length states
  pub same : (turn : ℕ) (items signals : State) (x s : ℕ) → slice_get values turn ≡ Some items → slice_get states turn ≡ Some signals → IsNamed nodes.names x (own s) → value_at items.row x ≡ value_at signals.row s
