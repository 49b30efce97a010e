-- Which values an image has at each turn: equations between the values of a turn and those of the turn
-- before, one for each item of each port. There are no banks, messages or events in them.
use Rattle.std.specs.Prelude.{◌≡◌, ℕ, ◌+◌, if◌then◌else◌, List, [], length, map, Option, Some, None, slice_get}
use Rattle.logic_four.specs.{declared.V4.V4, declared.V4.TheVariants.Undef, Values.settled, Values.value_at}
use Rattle.logic_four.specs.Memory.{memory_act, MemoryAct, initial_words}
use Rattle.net_defs.specs.{declared.timing.Timing.Timing, declared.stimulus.Stimulus.Stimulus, Time.is_edge, Time.initial_value, Time.input_at}
use Rattle.net_defs.specs.Steps.{registered}
use Rattle.net_defs.specs.declared.timing.Mode.TheVariants as mode
use Rattle.func_table.specs.{declared.table.Table.Table, Entries.looked_up}
use Rattle.image_defs.specs.Places.{sender_in, IsPort, IsItemIn, IsBlockOf}
use Rattle.image_defs.specs.declared.image.{Source.Source, Source.TheVariants.Own, Source.TheVariants.Got, Source.TheVariants.Const, Task.Task}
use Rattle.image_defs.specs.declared.image.{Task.TheVariants.Eval, Task.TheVariants.Hold, BlockWork.BlockWork, OutBit.OutBit, InColumn.InColumn, Work.Work}
use Rattle.image_defs.specs.declared.image.{Work.TheVariants.Logic, Work.TheVariants.Array, Work.TheVariants.Host, LinkIn.LinkIn, PortImage.PortImage}
use Rattle.image_defs.specs.declared.image.Image.{Image}

-- the turns of a cycle and the initial value of an image, as a timing; its mode and its list are of no
-- account
abbrev pub timing_of : Image → Timing
timing_of image = record { mode = mode.Unit; units = image.units; init = image.init; listed = [] }

-- a value for each port and slot
abbrev pub Grid : Type 0
Grid = ℕ → ℕ → V4

-- what an image has at one turn: a value for each port and slot, and the words of each memory, which is
-- given by its port and its number there
pub record Frame : Type 0 where
  pub value : Grid
  pub words : ℕ → ℕ → List (List V4)

-- ---- what one port does, from what it had in the last turn and has in this one

-- the value of a source of port p, which receives by these links
abbrev pub source_value : ℕ → List LinkIn → Grid → Grid → Source → V4
source_value p ins old new (Own slot last) = (if last then old else new) p slot
source_value p ins old new (Got slot last) = (if last then old else new) (sender_in ins slot) slot
source_value p ins old new (Const v) = v

-- the value of a source of the last turn; those of registers and memories are, in a well-formed image
abbrev pub past_value : ℕ → List LinkIn → Grid → Source → V4
past_value p ins old source = source_value p ins old old source

-- what a memory does at an edge: it acts on what its sources had in the last turn
abbrev pub block_act : ℕ → List LinkIn → Grid → BlockWork → List (List V4) → MemoryAct
block_act p ins old block words =
    memory_act words (past_value p ins old block.we) (map (past_value p ins old) block.address) (map (past_value p ins old) block.word)

-- what f makes of a member of a list, and undefined where there is none
abbrev pub value_of_member : {X : Type 0} → (X → V4) → Option X → V4
value_of_member f None = Undef
value_of_member f (Some x) = f x

-- output bit number bit that memory number b gives at an edge
abbrev pub block_bit : ℕ → List LinkIn → Frame → List BlockWork → ℕ → ℕ → V4
block_bit p ins old blocks b bit =
    value_of_member (λ block. value_at (block_act p ins old.value block (old.words p b)).outputs bit) (slice_get blocks b)

-- the words of a memory after a turn
abbrev pub block_words_after : Image → ℕ → ℕ → List LinkIn → Grid → BlockWork → List (List V4) → List (List V4)
block_words_after image turn p ins old block words =
    if is_edge image.units turn then (block_act p ins old block words).words else words

-- the values of a task, an output bit and an input, by what the image had and has
abbrev pub task_value : Image → ℕ → ℕ → List LinkIn → Frame → Grid → List Table → Task → V4
task_value image turn p ins old new tables (Eval slot table a b c d) =
    looked_up (slice_get tables table) (source_value p ins old.value new a) (source_value p ins old.value new b) (source_value p ins old.value new c) (source_value p ins old.value new d)
task_value image turn p ins old new tables (Hold slot from) =
    registered (timing_of image) turn (settled (past_value p ins old.value from)) (old.value p slot)

abbrev pub bit_value : Image → ℕ → ℕ → List LinkIn → Frame → List BlockWork → OutBit → V4
bit_value image turn p ins old blocks out =
    registered (timing_of image) turn (block_bit p ins old blocks out.block out.bit) (old.value p out.slot)

abbrev pub column_value : Image → Stimulus → ℕ → InColumn → V4
column_value image stimulus turn input = input_at (timing_of image) stimulus turn input.column

-- the value of item number i of port p, which does this work, at this turn
abbrev pub item_value : Image → Stimulus → ℕ → Frame → Grid → ℕ → List LinkIn → Work → ℕ → V4
item_value image stimulus turn old new p ins (Logic tables tasks) i =
    value_of_member (task_value image turn p ins old new tables) (slice_get tasks i)
item_value image stimulus turn old new p ins (Array blocks outs) i =
    value_of_member (bit_value image turn p ins old blocks) (slice_get outs i)
item_value image stimulus turn old new p ins (Host inputs printed) i =
    value_of_member (column_value image stimulus turn) (slice_get inputs i)

-- ---- what all ports do

-- new is a right step of the image in this turn from old: each item and each memory meets its equation
pub record IsImageStep (image : Image) (stimulus : Stimulus) (turn : ℕ) (old new : Frame) : Type 0 where
  pub values : (p i slot : ℕ) (port : PortImage) → IsPort image p port → IsItemIn port.work i slot → new.value p slot ≡ item_value image stimulus turn old new.value p port.ins port.work i
  pub words : (p b : ℕ) (port : PortImage) (block : BlockWork) → IsBlockOf image p b port block → new.words p b ≡ block_words_after image turn p port.ins old.value block (old.words p b)

-- this is what the image has at each turn, from turn 0 on: before turn 1 every item is undefined, and
-- every word has the initial value
pub record AreImageValues (image : Image) (stimulus : Stimulus) (at : ℕ → Frame) : Type 0 where
  pub first : (p slot : ℕ) → (at 0).value p slot ≡ Undef
  pub first_words : (p b : ℕ) (port : PortImage) (block : BlockWork) → IsBlockOf image p b port block → (at 0).words p b ≡ initial_words (length block.address) (length block.word) (initial_value image.init)
  pub steps : (turn : ℕ) → IsImageStep image stimulus (turn + 1) (at turn) (at (turn + 1))
