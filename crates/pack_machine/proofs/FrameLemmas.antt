-- What an image has, and what it shows, depends on a stimulus by the values of the inputs at each turn alone.
use Rattle.std.proofs.Common.{◌≡◌, ap, refl, true, false, cond, eqb, ℕ, zero, suc, ◌*◌, List, [], ◌∷◌, map, Bool, Option, Some, None, slice_get}
use Rattle.std.specs.{Prelude.unwrap_or, Option.option_map, List.position_or_len}
use Rattle.logic_four.specs.{declared.V4.V4, Values.value_at, Memory.MemoryAct}
use Rattle.net_defs.specs.{declared.stimulus.Stimulus.Stimulus, Time.input_at, Time.is_edge}
use Rattle.func_table.specs.declared.table.Table.{Table}
use Rattle.image_defs.specs.Places.{item_slots, blocks_of, printed_of, host_of}
use Rattle.image_defs.specs.Steps.{Frame, Grid, timing_of, source_value, past_value, block_act, value_of_member, block_bit, block_words_after, task_value, item_value}
use Rattle.image_defs.specs.Frames.{slot_value, filled, words_by, next_frame, frame, printed_value, shown}
use Rattle.image_defs.specs.declared.image.{Source.Source, Source.TheVariants.Own, Source.TheVariants.Got, Source.TheVariants.Const, Task.Task}
use Rattle.image_defs.specs.declared.image.{Task.TheVariants.Eval, Task.TheVariants.Hold, BlockWork.BlockWork, LinkIn.LinkIn, Work.Work}
use Rattle.image_defs.specs.declared.image.{Work.TheVariants.Logic, Work.TheVariants.Array, Work.TheVariants.Host, PortImage.PortImage, Image.Image}

-- ---- one port

member_same : {X : Type 0} (f g : X → V4) (o : Option X) → ((x : X) → f x ≡ g x) → value_of_member f o ≡ value_of_member g o
member_same f g None same = refl
member_same f g (Some x) same = same x

map_same : {X Y : Type 0} (f g : X → Y) (xs : List X) → ((x : X) → f x ≡ g x) → map f xs ≡ map g xs
map_same f g [] same = refl
map_same f g (x ∷ xs) same = rw (same x, map_same f g xs same) refl

either_same : {X : Type 0} (b : Bool) (x y z w : X) → x ≡ y → z ≡ w → cond b x z ≡ cond b y w
either_same b x y z w one other = rw (one, other) refl

abbrev IsSameGrid : Grid → Grid → Type 0
IsSameGrid one other = (p slot : ℕ) → one p slot ≡ other p slot

record IsSameFrame (one other : Frame) : Type 0 where
  pub value : IsSameGrid one.value other.value
  pub words : (p b : ℕ) → one.words p b ≡ other.words p b

source_same : (p : ℕ) (ins : List LinkIn) (old new old' new' : Grid) (source : Source) → IsSameGrid old old' → IsSameGrid new new' → source_value p ins old new source ≡ source_value p ins old' new' source
source_same p ins old new old' new' (Own slot true) before now = before p slot
source_same p ins old new old' new' (Own slot false) before now = now p slot
source_same p ins old new old' new' (Got slot true) before now = before _ slot
source_same p ins old new old' new' (Got slot false) before now = now _ slot
source_same p ins old new old' new' (Const v) before now = refl

past_same : (p : ℕ) (ins : List LinkIn) (old old' : Grid) → IsSameGrid old old' → (source : Source) → past_value p ins old source ≡ past_value p ins old' source
past_same p ins old old' same source = source_same p ins old old old' old' source same same

act_same : (p : ℕ) (ins : List LinkIn) (old old' : Grid) (block : BlockWork) (words words' : List (List V4)) → IsSameGrid old old' → words ≡ words' → block_act p ins old block words ≡ block_act p ins old' block words'
act_same p ins old old' block words words' same are =
    rw (are, past_same p ins old old' same block.we, map_same (past_value p ins old) (past_value p ins old') block.address (past_same p ins old old' same), map_same (past_value p ins old) (past_value p ins old') block.word (past_same p ins old old' same)) refl

-- ---- all ports

module _ (image : Image) (one other : Stimulus) (inputs : (turn column : ℕ) → input_at (timing_of image) one turn column ≡ input_at (timing_of image) other turn column) where
  module _ (turn : ℕ) (old old' : Frame) (before : IsSameFrame old old') where
    task_same : (p : ℕ) (ins : List LinkIn) (new new' : Grid) (tables : List Table) (task : Task) → IsSameGrid new new' → task_value image turn p ins old new tables task ≡ task_value image turn p ins old' new' tables task
    task_same p ins new new' tables (Eval slot table a b c d) now =
        let s = λ (source : Source). source_same p ins old.value new old'.value new' source before.value now in
        rw (s a, s b, s c, s d) refl
    task_same p ins new new' tables (Hold slot from) now = rw (past_same p ins old.value old'.value before.value from, before.value p slot) refl

    bit_same : (p : ℕ) (ins : List LinkIn) (blocks : List BlockWork) (b bit : ℕ) → block_bit p ins old blocks b bit ≡ block_bit p ins old' blocks b bit
    bit_same p ins blocks b bit = member_same _ _ (slice_get blocks b) (λ block. ap (λ (act : MemoryAct). value_at act.outputs bit) (act_same p ins old.value old'.value block (old.words p b) (old'.words p b) before.value (before.words p b)))

    item_same : (p : ℕ) (ins : List LinkIn) (work : Work) (i : ℕ) (new new' : Grid) → IsSameGrid new new' → item_value image one turn old new p ins work i ≡ item_value image other turn old' new' p ins work i
    item_same p ins (Logic tables tasks) i new new' now = member_same _ _ (slice_get tasks i) (λ task. task_same p ins new new' tables task now)
    item_same p ins (Array blocks outs) i new new' now = member_same _ _ (slice_get outs i) (λ out. rw (bit_same p ins blocks out.block out.bit, before.value p out.slot) refl)
    item_same p ins (Host columns printed) i new new' now = member_same _ _ (slice_get columns i) (λ input. inputs turn input.column)

    slot_same : (new new' : Grid) (p slot : ℕ) (port : Option PortImage) → IsSameGrid new new' → slot_value image one turn old new p slot port ≡ slot_value image other turn old' new' p slot port
    slot_same new new' p slot None now = refl
    slot_same new new' p slot (Some port) now = item_same p port.ins port.work (position_or_len (λ s. eqb s slot) (item_slots port.work)) new new' now

    filled_same : (n : ℕ) → IsSameGrid (filled image one turn old n) (filled image other turn old' n)
    unfolding filled
    filled_same zero p slot = refl
    filled_same (suc n) p slot =
        either_same (eqb slot n) _ _ _ _ (slot_same (filled image one turn old n) (filled image other turn old' n) p n (slice_get image.ports p) (filled_same n)) (filled_same n p slot)

    block_same : (p : ℕ) (ins : List LinkIn) (block : BlockWork) (b : ℕ) → block_words_after image turn p ins old.value block (old.words p b) ≡ block_words_after image turn p ins old'.value block (old'.words p b)
    block_same p ins block b =
        either_same (is_edge image.units turn) _ _ _ _ (ap (λ (act : MemoryAct). act.words) (act_same p ins old.value old'.value block (old.words p b) (old'.words p b) before.value (before.words p b))) (before.words p b)

    words_same : (p b : ℕ) (port : Option PortImage) → words_by image one (λ ins block. block_words_after image turn p ins old.value block (old.words p b)) port b ≡ words_by image other (λ ins block. block_words_after image turn p ins old'.value block (old'.words p b)) port b
    words_same p b None = refl
    words_same p b (Some port) = of_block (slice_get (blocks_of port.work) b) where
      of_block : (o : Option BlockWork) → unwrap_or (option_map (λ block. block_words_after image turn p port.ins old.value block (old.words p b)) o) [] ≡ unwrap_or (option_map (λ block. block_words_after image turn p port.ins old'.value block (old'.words p b)) o) []
      of_block None = refl
      of_block (Some block) = block_same p port.ins block b

    next_same : IsSameFrame (next_frame image one turn old) (next_frame image other turn old')
    next_same = record {
      value = λ p slot. filled_same (suc slot) p slot;
      words = λ p b. words_same p b (slice_get image.ports p);
    }

  frame_same : (turn : ℕ) → IsSameFrame (frame image one turn) (frame image other turn)
  unfolding frame
  frame_same zero = record { value = λ p slot. refl; words = λ p b. refl }
  frame_same (suc turn) = next_same (suc turn) (frame image one turn) (frame image other turn) (frame_same turn)

  printed_same : (values values' : Grid) (j : ℕ) → IsSameGrid values values' → printed_value image values j ≡ printed_value image values' j
  printed_same values values' j same =
      member_same _ _ (slice_get image.ports (host_of image)) (λ port. member_same _ _ (slice_get (printed_of port.work) j) (λ source. source_same (host_of image) port.ins values values values' values' source same same))

  -- stimuli that give the inputs the same values show the same cells
  pub shown_same : (c j : ℕ) → shown image one c j ≡ shown image other c j
  shown_same c j = printed_same _ _ j (frame_same (c * image.units)).value
