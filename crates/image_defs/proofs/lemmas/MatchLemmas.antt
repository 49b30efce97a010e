-- An image that matches items has at each place the value of the item that the place claims: by the
-- turn, and in a turn by the slot.
use Rattle.std.proofs.Common.{◌≡◌, ℕ, zero, suc, ◌+◌, ◌*◌, ◌<◌, if◌then◌else◌, true, false, List, [], ◌∷◌, length, map, slice_get, Some, sym, ap, ◌∙◌, subst, refl, arith}
use Rattle.std.proofs.lemmas.Option.{slice_get_within, slice_get-map}
use Rattle.std.specs.Option.{option_map}
use Rattle.list_laws.proofs.{Members.member_at, Members.map_at, Options.one_some}
use Rattle.logic_four.specs.{declared.V4.V4, Values.settled, Values.value_at}
use Rattle.logic_four.proofs.lemmas.CodeLemmas.{code_of_small, undefined_at}
use Rattle.net_defs.specs.Steps.{State, registered, values_of, words_of}
use Rattle.net_defs.specs.{declared.timing.Timing.Timing, declared.stimulus.Stimulus.Stimulus, Time.is_edge}
use Rattle.func_table.specs.{declared.table.Table.Table, Entries.AreAlike, Entries.entry_for, Entries.place_of}
use Rattle.node_defs.specs.declared.items.Item.TheVariants.{Input, BlockBit, Node, Latch}
use Rattle.node_defs.specs.Values.{feed_value, IsItemStep, AreItemValues, first_items}
use Rattle.node_defs.specs.declared.items.{Tag.Tag, Tag.TheVariants.This, Tag.TheVariants.Last, Feed.Feed, Feed.TheVariants.From, Feed.TheVariants.Fixed}
use Rattle.node_defs.specs.declared.items.{Item.Item, NodeBlock.NodeBlock, NodeNet.NodeNet}
use Rattle.node_defs.specs.Values as items
use Rattle.image_defs.specs.Places.{IsPort, IsItemIn, IsBlockOf, task_slot, blocks_of, printed_of, sender_in, host_of}
use Rattle.image_defs.specs.WellFormed.{IsWellFormed, IsWork, IsTask, IsBefore}
use Rattle.image_defs.specs.Steps.{Frame, Grid, timing_of, source_value, past_value, value_of_member, block_act, task_value, bit_value, column_value, item_value, IsImageStep}
use Rattle.image_defs.specs.Matches.{ClaimsIn, Carries, CarryAll, MemoryImplements, TaskImplements, BitImplements, InputImplements, Implements, ImplementsClaim, PrintsItems, Matches}
use Rattle.image_defs.specs.declared.image.{Source.Source, Source.TheVariants.Own, Source.TheVariants.Got, Source.TheVariants.Const, Task.Task}
use Rattle.image_defs.specs.declared.image.{Task.TheVariants.Eval, Task.TheVariants.Hold, BlockWork.BlockWork, OutBit.OutBit, InColumn.InColumn, Work.Work}
use Rattle.image_defs.specs.declared.image.{Work.TheVariants.Logic, Work.TheVariants.Array, Work.TheVariants.Host, LinkIn.LinkIn, PortImage.PortImage}
use Rattle.image_defs.specs.{declared.image.Image.Image, Frames.frame, Frames.shown, Shows.ShowsItems}
use Rattle.image_defs.proofs.lemmas.ValueLemmas.{value_meets}

-- ---- lists and tables

-- tables with the same entries answer the same
answers_same : (one other : Table) (a b c d : V4) → AreAlike one other → entry_for one a b c d ≡ entry_for other a b c d
unfolding entry_for
answers_same one other a b c d alike =
    alike (place_of a b c d) (omega (arith, code_of_small a, code_of_small b, code_of_small c, code_of_small d))

-- two lists give the same where their members do, one for one
pub maps_same : {X Y Z : Type 0} (f : X → Z) (g : Y → Z) (xs : List X) (ys : List Y) → length xs ≡ length ys
    → ((k : ℕ) (x : X) (y : Y) → slice_get xs k ≡ Some x → slice_get ys k ≡ Some y → f x ≡ g y) → map f xs ≡ map g ys
maps_same f g [] [] long each = refl
maps_same f g [] (y ∷ ys) long each = absurd (omega (arith, long))
maps_same f g (x ∷ xs) [] long each = absurd (omega (arith, long))
maps_same f g (x ∷ xs) (y ∷ ys) long each =
    rw (each 0 x y refl refl) (ap (λ zs. g y ∷ zs) (maps_same f g xs ys (omega (arith, long)) (λ k v w here there. each (suc k) v w here there)))

-- what stands at a place of a mapped list is made of what stands there
made_of : {X Y : Type 0} (f : X → Y) (xs : List X) (i : ℕ) (x : X) (y : Y) → slice_get xs i ≡ Some x → slice_get (map f xs) i ≡ Some y → f x ≡ y
made_of f xs i x y here made = one_some (f x) y (sym (slice_get-map f xs i ∙ ap (option_map f) here) ∙ made)

module _ (image : Image) (claims : List (List ℕ)) where
  -- each place has the value of the item that it claims
  abbrev Same : Grid → State → Type 0
  Same values state = (p slot x : ℕ) → ClaimsIn image claims p slot x → values p slot ≡ value_at state.row x

  -- so has each place in the slots before n
  abbrev SameBelow : ℕ → Grid → State → Type 0
  SameBelow n values state = (p slot x : ℕ) → slot < n → ClaimsIn image claims p slot x → values p slot ≡ value_at state.row x

  -- each memory has the words of the items' memories that it is as
  abbrev SameWords : NodeNet → Frame → State → Type 0
  SameWords nodes values state =
      (p b m : ℕ) (port : PortImage) (block : BlockWork) (memory : NodeBlock) → IsBlockOf image p b port block → slice_get nodes.blocks m ≡ Some memory
      → MemoryImplements image claims p port.ins block memory → values.words p b ≡ words_of state m

  -- ---- sources

  module _ (p : ℕ) (ins : List LinkIn) (old : Grid) (before : State) (same : Same old before) where
    -- what a source of the last turn takes
    past_taken : (source : Source) (x : ℕ) (tag : Tag) → Carries image claims p ins source (From x tag) → past_value p ins old source ≡ value_at before.row x
    past_taken (Own s true) x tag carries = same p s x carries.0
    past_taken (Own s false) x tag carries = same p s x carries.0
    past_taken (Got s true) x tag carries = same (sender_in ins s) s x carries.0
    past_taken (Got s false) x tag carries = same (sender_in ins s) s x carries.0
    past_taken (Const v) x tag carries = absurd carries

    all_taken : (sources : List Source) (taken : List ℕ) → CarryAll image claims p ins sources taken → map (past_value p ins old) sources ≡ values_of before.row taken
    all_taken sources taken carry =
        maps_same (past_value p ins old) (value_at before.row) sources taken carry.as_many (λ k source x here there. past_taken source x Last (carry.each k x source here there))

    act_same : (block : BlockWork) (memory : NodeBlock) (words : List (List V4)) → MemoryImplements image claims p ins block memory → block_act p ins old block words ≡ items.block_act before memory words
    act_same block memory words is =
        rw (past_taken block.we memory.we Last is.we, all_taken block.address memory.address is.address, all_taken block.word memory.word is.word) refl

    -- what an operand of an item in slot n takes
    taken : (n : ℕ) (new : Grid) (after : State) (source : Source) (feed : Feed) → SameBelow n new after → IsBefore n source → Carries image claims p ins source feed
        → source_value p ins old new source ≡ feed_value before after feed
    taken n new after (Own s true) (From x Last) below early carries = same p s x carries.0
    taken n new after (Own s false) (From x Last) below early carries = absurd (let e : false ≡ true = carries.1 in cc)
    taken n new after (Own s true) (From x This) below early carries = absurd (let e : true ≡ false = carries.1 in cc)
    taken n new after (Own s false) (From x This) below early carries = below p s x (early refl) carries.0
    taken n new after (Own s last) (Fixed w) below early carries = absurd carries
    taken n new after (Got s true) (From x Last) below early carries = same (sender_in ins s) s x carries.0
    taken n new after (Got s false) (From x Last) below early carries = absurd (let e : false ≡ true = carries.1 in cc)
    taken n new after (Got s true) (From x This) below early carries = absurd (let e : true ≡ false = carries.1 in cc)
    taken n new after (Got s false) (From x This) below early carries = below (sender_in ins s) s x (early refl) carries.0
    taken n new after (Got s last) (Fixed w) below early carries = absurd carries
    taken n new after (Const v) (From x tag) below early carries = absurd carries
    taken n new after (Const v) (Fixed w) below early carries = carries

  module _ (nodes : NodeNet) (timing : Timing) (stimulus : Stimulus) (units : image.units ≡ timing.units) (init : image.init ≡ timing.init) where
    registered_same : (turn : ℕ) (u v k w : V4) → u ≡ v → k ≡ w → registered (timing_of image) turn u k ≡ registered timing turn v w
    registered_same turn u v k w value kept = rw (units, init, value, kept) refl

    acted_same : (turn : ℕ) (acted others words kept : List (List V4)) → acted ≡ others → words ≡ kept
        → (if is_edge image.units turn then acted else words) ≡ (if is_edge timing.units turn then others else kept)
    acted_same turn acted others words kept act stay = rw (units, act, stay) refl

    -- ---- a turn

    module _ (turn : ℕ) (old : Frame) (before : State) (same : Same old.value before) (same_words : SameWords nodes old before) (new : Grid) (after : State) where
      task_same : (p x : ℕ) (port : PortImage) (tables : List Table) (task : Task) (item : Item) → SameBelow (task_slot task) new after → old.value p (task_slot task) ≡ value_at before.row x
          → IsTask port (length tables) task → TaskImplements image claims nodes p port.ins tables task item
          → task_value image turn p port.ins old new tables task ≡ items.item_value nodes timing stimulus turn before after x item
      task_same p x port tables (Eval s table a b c d) (Node t feeds) below kept right (one, other, one_at, other_at, alike, on_a, on_b, on_c, on_d) =
          rw (
            one_at,
            other_at,
            taken p port.ins old.value before same s new after a feeds.a below right.1.before on_a,
            taken p port.ins old.value before same s new after b feeds.b below right.2.before on_b,
            taken p port.ins old.value before same s new after c feeds.c below right.3.before on_c,
            taken p port.ins old.value before same s new after d feeds.d below right.4.before on_d,
          )
          (answers_same one other _ _ _ _ alike)
      task_same p x port tables (Eval s table a b c d) (Input column) below kept right is = absurd is
      task_same p x port tables (Eval s table a b c d) (BlockBit m bit) below kept right is = absurd is
      task_same p x port tables (Eval s table a b c d) (Latch op) below kept right is = absurd is
      task_same p x port tables (Hold s from) (Latch op) below kept right is =
          registered_same turn _ _ _ _ (ap settled (past_taken p port.ins old.value before same from op Last is)) kept
      task_same p x port tables (Hold s from) (Input column) below kept right is = absurd is
      task_same p x port tables (Hold s from) (BlockBit m bit) below kept right is = absurd is
      task_same p x port tables (Hold s from) (Node t feeds) below kept right is = absurd is

      bit_same : (p x : ℕ) (port : PortImage) (out : OutBit) (item : Item) → IsPort image p port → old.value p out.slot ≡ value_at before.row x
          → BitImplements image claims nodes p port.ins (blocks_of port.work) out item
          → bit_value image turn p port.ins old (blocks_of port.work) out ≡ items.item_value nodes timing stimulus turn before after x item
      bit_same p x port out (BlockBit m bit) is kept (bit_is, block, memory, block_at, memory_at, as_memory) =
          registered_same turn _ _ _ _
          (rw (block_at, memory_at, bit_is, same_words p out.block m port block memory (record { port_is = is; block_is = block_at }) memory_at as_memory)
          (ap (λ act. value_at act.outputs bit) (act_same p port.ins old.value before same block memory (words_of before m) as_memory)))
          kept
      bit_same p x port out (Input column) is kept as_item = absurd as_item
      bit_same p x port out (Node t feeds) is kept as_item = absurd as_item
      bit_same p x port out (Latch op) is kept as_item = absurd as_item

      column_same : (x : ℕ) (input : InColumn) (item : Item) → InputImplements input item → column_value image stimulus turn input ≡ items.item_value nodes timing stimulus turn before after x item
      column_same x input (Input column) is = rw (units, is) refl
      column_same x input (BlockBit m bit) is = absurd is
      column_same x input (Node t feeds) is = absurd is
      column_same x input (Latch op) is = absurd is

      -- an item of a port has the value of the item that it is as
      work_same : (p i slot x : ℕ) (port : PortImage) (work : Work) (item : Item) → IsPort image p port → port.work ≡ work → IsWork image.columns port work → IsItemIn work i slot
          → SameBelow slot new after → old.value p slot ≡ value_at before.row x → Implements image claims nodes p port.ins work i item
          → item_value image stimulus turn old new p port.ins work i ≡ items.item_value nodes timing stimulus turn before after x item
      work_same p i slot x port (Logic tables tasks) item is does right stands below kept (task, at, as_item) =
          let slot_is : task_slot task ≡ slot = made_of task_slot tasks i task slot at stands in
          ap (value_of_member (task_value image turn p port.ins old new tables)) at
          ∙ task_same p x port tables task item (subst (λ n. SameBelow n new after) (sym slot_is) below) (ap (old.value p) slot_is ∙ kept) (right i task at) as_item
      work_same p i slot x port (Array blocks outs) item is does right stands below kept (out, at, as_item) =
          let slot_is : out.slot ≡ slot = made_of (λ o. o.slot) outs i out slot at stands in
          let blocks_are : blocks ≡ blocks_of port.work = ap blocks_of (sym does) in
          ap (value_of_member (bit_value image turn p port.ins old blocks)) at
          ∙ ap (λ bs. bit_value image turn p port.ins old bs out) blocks_are
          ∙ bit_same p x port out item is (ap (old.value p) slot_is ∙ kept) (subst (λ bs. BitImplements image claims nodes p port.ins bs out item) blocks_are as_item)
      work_same p i slot x port (Host inputs printed) item is does right stands below kept (input, at, as_item) =
          ap (value_of_member (column_value image stimulus turn)) at ∙ column_same x input item as_item

    -- ---- the whole run

    module _ (fits : IsWellFormed image) (matches : Matches image claims nodes timing) where
      module _ (turn : ℕ) (old new : Frame) (before after : State) (same : Same old.value before) (same_words : SameWords nodes old before) (step : IsImageStep image stimulus turn old new) (item_step : IsItemStep nodes timing stimulus turn before after) where
        place_same : (p slot x : ℕ) → SameBelow slot new.value after → ClaimsIn image claims p slot x → new.value p slot ≡ value_at after.row x
        place_same p slot x below claim =
            let claimed : ImplementsClaim image claims nodes p claim.i x claim.port = matches.items p claim.i x claim.port claim.is claim.claimed in
            step.values p claim.i slot claim.port claim.is claim.stands
            ∙ work_same turn old before same same_words new.value after p claim.i slot x claim.port claim.port.work claimed.item claim.is refl (fits.ports p claim.port claim.is).work claim.stands below (same p slot x claim) claimed.same
            ∙ sym (item_step.values x claimed.item claimed.is)

        same_below : (n : ℕ) → SameBelow n new.value after
        same_below zero p slot x within claim = absurd (omega (arith, within))
        same_below (suc n) p slot x within claim = place_same p slot x (λ q s y less other. same_below n q s y (omega (arith, within, less)) other) claim

        next_same : Same new.value after
        next_same p slot x claim = same_below (suc slot) p slot x (omega arith) claim

        next_words : SameWords nodes new after
        next_words p b m port block memory is memory_at as_memory =
            step.words p b port block is
            ∙ acted_same turn _ _ _ _
            (ap (λ words. (block_act p port.ins old.value block words).words) words_are ∙ ap (λ act. act.words) (act_same p port.ins old.value before same block memory (words_of before m) as_memory))
            words_are
            ∙ sym (item_step.words m memory memory_at)
          where
            words_are : old.words p b ≡ words_of before m
            words_are = same_words p b m port block memory is memory_at as_memory

        next : Same new.value after × SameWords nodes new after
        next = (next_same, next_words)

      module _ (values : List State) (are : AreItemValues nodes timing stimulus values) where
        -- the image has at a turn what the items have
        abbrev SameAt : ℕ → Type 0
        SameAt turn =
            (state : State) → slice_get values turn ≡ Some state → Same (frame image stimulus turn).value state × SameWords nodes (frame image stimulus turn) state

        first_at : SameAt 0
        first_at state at = (same, same_words) where
          first_is : state ≡ first_items nodes timing
          first_is = one_some state (first_items nodes timing) (sym at ∙ are.first)

          same : Same (frame image stimulus 0).value state
          same p slot x claim =
              (value_meets image stimulus fits).first p slot
              ∙ sym (ap (λ s. value_at s.row x) first_is ∙ undefined_at (length nodes.items) x)

          same_words : SameWords nodes (frame image stimulus 0) state
          same_words p b m port block memory is memory_at as_memory =
              (value_meets image stimulus fits).first_words p b port block is
              ∙ rw (as_memory.address.as_many, as_memory.word.as_many, init) refl
              ∙ sym (ap (λ s. words_of s m) first_is ∙ map_at _ nodes.blocks m memory [] memory_at)

        next_at : (turn : ℕ) → SameAt turn → SameAt (turn + 1)
        next_at turn here state at =
            let last : (old : State) × (slice_get values turn ≡ Some old) = member_at values turn (omega (arith, slice_get_within values (turn + 1) state at)) in
            let held : Same (frame image stimulus turn).value last.0 × SameWords nodes (frame image stimulus turn) last.0 = here last.0 last.1 in
            next (turn + 1) (frame image stimulus turn) (frame image stimulus (turn + 1)) last.0 state held.0 held.1 ((value_meets image stimulus fits).steps turn) (are.steps turn last.0 state last.1 at)

        same_at : (turn : ℕ) → SameAt turn
        same_at zero = first_at
        same_at (suc turn) = subst SameAt (let e : turn + 1 ≡ suc turn = omega arith in e) (next_at turn (same_at turn))

        -- what is shown of a printed item
        shown_same : (c j x : ℕ) (state : State) → slice_get values (c * image.units) ≡ Some state → slice_get nodes.printed j ≡ Some x → shown image stimulus c j ≡ value_at state.row x
        shown_same c j x state at printed_at =
            let host : (port : PortImage) × IsPort image (host_of image) port = member_at image.ports (host_of image) (omega (arith, fits.some_ports)) in
            let prints : PrintsItems image claims nodes.printed host.0 = matches.printed host.0 host.1 in
            let source : (s : Source) × (slice_get (printed_of host.0.work) j ≡ Some s) = member_at (printed_of host.0.work) j (omega (arith, prints.as_many, slice_get_within nodes.printed j x printed_at)) in
            let values_at : Grid = (frame image stimulus (c * image.units)).value in
            ap (λ o. value_of_member (λ port. value_of_member (source_value (host_of image) port.ins values_at values_at) (slice_get (printed_of port.work) j)) o) host.1
            ∙ ap (value_of_member (source_value (host_of image) host.0.ins values_at values_at)) source.1
            ∙ past_taken (host_of image) host.0.ins values_at state (same_at (c * image.units) state at).0 source.0 x This (prints.each j x source.0 source.1 printed_at)

pub shows_items : (image : Image) (claims : List (List ℕ)) (nodes : NodeNet) (timing : Timing) (stimulus : Stimulus) (values : List State) → IsWellFormed image → Matches image claims nodes timing
    → AreItemValues nodes timing stimulus values → ShowsItems image claims nodes stimulus values
shows_items image claims nodes timing stimulus values fits matches are = record {
  places = λ turn p slot x state at claim. (same_at image claims nodes timing stimulus matches.units matches.init fits matches values are turn state at).0 p slot x claim;
  cells = shown_same image claims nodes timing stimulus matches.units matches.init fits matches values are;
}
