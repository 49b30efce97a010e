-- An array processor keeps the words and the answers of its memories.
use Rattle.std.proofs.Common.{◌≡◌, ◌∙◌, ℕ, ◌-◌, ◌<◌, ◌≤◌, Bool, true, false, if◌then◌else◌, List, length, map, get_or, slice_get, ◌==◌, Option, Some, None, sym, ap, subst, refl, arith}
use Rattle.std.proofs.{Math.Nat.add-sub_cancel, lemmas.Bool.cond-true, lemmas.Bool.cond-false}
use Rattle.std.proofs.lemmas.Option.{slice_get_within, slice_get-get_or, get_or_from_slice_get}
use Rattle.list_laws.proofs.Places.{within_some}
use Rattle.logic_four.specs.{declared.V4.V4, Values.value_at, Memory.memory_act, Memory.MemoryAct}
use Rattle.net_defs.specs.{declared.stimulus.Stimulus.Stimulus, Time.is_edge, Time.initial_value, Steps.registered}
use Rattle.image_defs.specs.Places.{Each, blocks_of, IsPort, IsItemIn, IsBlockOf}
use Rattle.image_defs.specs.WellFormed.{IsWellFormed, IsPast, IsBlock, IsBit, IsWork}
use Rattle.image_defs.specs.Steps.{value_of_member, past_value, block_act, block_bit, block_words_after, bit_value, item_value, timing_of}
use Rattle.image_defs.specs.Ports.{PortView, CanExecute, at_first, after_begin, after_end, value_in}
use Rattle.image_defs.specs.declared.image.{Source.Source, BlockWork.BlockWork, OutBit.OutBit, Work.TheVariants.Array, PortImage.PortImage, Image.Image}
use Rattle.image_defs.specs.Frames.{frame}
use Rattle.image_defs.proofs.lemmas.{PlaceLemmas.at_map, ValueLemmas.value_meets}
use Rattle.port_bank.specs.Reads.{IsHeld, now_in, past_in}
use Rattle.port_bank.proofs.lemmas.TurnLemmas.{turn_meets, item_meets, there_within}
use Rattle.port_array.specs.code.Acts.{act_at, IsPastAt, ReadsPast, HasFewBits, AreFirst, Acted, AreActed, FitsBit, answered_bit}
use Rattle.port_array.specs.{Acts.LaneMemory, Acts.AreFit, Kept.words_turn, Kept.LaneArray, Kept.IsReady}

-- ---- the work of an array processor

work_right : (image : Image) (p : ℕ) (port : PortImage) (blocks : List BlockWork) (bits : List OutBit) → IsWellFormed image → IsPort image p port → port.work ≡ Array blocks bits
    → IsWork image.columns port (Array blocks bits)
work_right image p port blocks bits fits is work = subst (IsWork image.columns port) work (fits.ports p port is).work

pub blocks_few : (image : Image) (p : ℕ) (port : PortImage) (blocks : List BlockWork) (bits : List OutBit) → IsWellFormed image → IsPort image p port → port.work ≡ Array blocks bits → Each HasFewBits blocks
blocks_few image p port blocks bits fits is work b block there =
    let right : IsBlock port block = (work_right image p port blocks bits fits is work).0 b block there in
    record { address = right.address_bits.1; word = right.word_bits.1 }

past_at : (view : PortView) (port : PortImage) (source : Source) → IsWellFormed view.image → IsPort view.image view.port port → IsPast port source → IsPastAt view source
past_at view port source fits is past = record { port = port; is = is; past = past; within = there_within view.image view.port port source fits is past.there }

pub blocks_read : (a : LaneArray) → IsReady a → Each (ReadsPast a.bank) a.blocks
blocks_read a ready b block there =
    let right : IsBlock ready.port_image block = (work_right a.bank.image a.bank.port ready.port_image a.blocks a.bits ready.image ready.is ready.work).0 b block there in
    record {
      we = past_at a.bank ready.port_image block.we ready.image ready.is right.we;
      address = λ i source at. past_at a.bank ready.port_image source ready.image ready.is (right.address i source at);
      word = λ i source at. past_at a.bank ready.port_image source ready.image ready.is (right.word i source at);
    }

-- the act of a memory is that of the image
act_same : (view : PortView) (port : PortImage) (block : BlockWork) (words : List (List V4)) → IsPort view.image view.port port → act_at view block words ≡ block_act view.port port.ins (past_in view).value block words
act_same view port block words is = ap act_by is where
  act_by : Option PortImage → MemoryAct
  act_by port_there = memory_act words (past_by block.we) (map past_by block.address) (map past_by block.word) where
    past_by : Source → V4
    past_by source = value_of_member (λ q. past_value view.port q.ins (past_in view).value source) port_there

-- a memory of the port is one of the image
block_is : (a : LaneArray) (b : ℕ) (block : BlockWork) → (ready : IsReady a) → slice_get a.blocks b ≡ Some block → IsBlockOf a.bank.image a.bank.port b ready.port_image block
block_is a b block ready there = record {
  port_is = ready.is;
  block_is = ap (λ work. slice_get (blocks_of work) b) ready.work ∙ there;
}

-- ---- before the first turn

pub ready_first : (a : LaneArray) (image : Image) (stimulus : Stimulus) (p : ℕ) (port_image : PortImage) → a.bank ≡ at_first image stimulus p → IsWellFormed image → IsPort image p port_image
    → port_image.work ≡ Array a.blocks a.bits → AreFirst (initial_value image.init) a.blocks a.memories → IsReady a
ready_first a image stimulus p port_image bank fits is work first = record {
  image = subst (λ view. IsWellFormed view.image) (sym bank) fits;
  first = subst (λ view. 1 ≤ view.turn) (sym bank) (omega arith);
  port_image = port_image;
  is = subst (λ view. IsPort view.image view.port port_image) (sym bank) is;
  work = work;
  fit = record { long = first.long; each = λ b block memory at there. (first.each b block memory at there).fits };
  words = λ b block memory at there.
      subst (λ view. memory.cells ≡ (frame view.image view.stimulus (words_turn view)).words view.port b) (sym bank)
      ((first.each b block memory at there).words
      ∙ sym ((value_meets image stimulus fits).first_words p b port_image block (record { port_is = is; block_is = ap (λ w. slice_get (blocks_of w) b) work ∙ at })));
  outs = λ begun edge b block memory at there. absurd (not_begun (ap (λ view. view.begun) (sym bank) ∙ begun));
} where
  not_begun : false ≡ true → ⊥
  not_begun e = cc

-- ---- a turn begins

module _ (a : LaneArray) (memories : List LaneMemory) (ready : IsReady a) (fresh : a.bank.begun ≡ false) (fit : AreFit a.blocks memories)
    (acted : is_edge a.bank.image.units a.bank.turn ≡ true → AreActed a.bank a.blocks (length a.blocks) a.memories memories)
    (same : is_edge a.bank.image.units a.bank.turn ≡ false → memories ≡ a.memories) where
  -- the words that each memory held
  held_before : (b : ℕ) (block : BlockWork) (memory : LaneMemory) → slice_get a.blocks b ≡ Some block → slice_get a.memories b ≡ Some memory → memory.cells ≡ (past_in a.bank).words a.bank.port b
  held_before b block memory at there = subst (λ begun. memory.cells ≡ (frame a.bank.image a.bank.stimulus (if begun then a.bank.turn else a.bank.turn - 1)).words a.bank.port b) fresh (ready.words b block memory at there)

  -- an edge that a memory went through
  acted_here : is_edge a.bank.image.units a.bank.turn ≡ true → (b : ℕ) (block : BlockWork) (memory : LaneMemory) → slice_get a.blocks b ≡ Some block → slice_get memories b ≡ Some memory
      → (memory.cells ≡ (block_act a.bank.port ready.port_image.ins (past_in a.bank).value block ((past_in a.bank).words a.bank.port b)).words) × (memory.outs ≡ (block_act a.bank.port ready.port_image.ins (past_in a.bank).value block ((past_in a.bank).words a.bank.port b)).outputs)
  acted_here edge b block memory at there = (did.words ∙ ap (λ act. act.words) whole, did.outputs ∙ ap (λ act. act.outputs) whole) where
    within : b < length a.memories
    within = omega (arith, slice_get_within memories b memory there, fit.long, ready.fit.long)

    was : slice_get a.memories b ≡ Some (get_or a.memories b memory)
    was = slice_get-get_or a.memories b memory within

    did : Acted a.bank block (get_or a.memories b memory) memory
    did = (acted edge).acted b block (get_or a.memories b memory) memory (slice_get_within a.blocks b block at) at was there

    whole : act_at a.bank block (get_or a.memories b memory).cells ≡ block_act a.bank.port ready.port_image.ins (past_in a.bank).value block ((past_in a.bank).words a.bank.port b)
    whole = ap (act_at a.bank block) (held_before b block (get_or a.memories b memory) at was) ∙ act_same a.bank ready.port_image block ((past_in a.bank).words a.bank.port b) ready.is

  words_begun : (b : ℕ) (block : BlockWork) (memory : LaneMemory) → slice_get a.blocks b ≡ Some block → slice_get memories b ≡ Some memory → memory.cells ≡ (now_in a.bank).words a.bank.port b
  words_begun b block memory at there = by_edge (is_edge a.bank.image.units a.bank.turn) refl ∙ sym ((turn_meets a.bank ready.image ready.first).words a.bank.port b ready.port_image block (block_is a b block ready at)) where
    by_edge : (edge : Bool) → is_edge a.bank.image.units a.bank.turn ≡ edge → memory.cells ≡ block_words_after a.bank.image a.bank.turn a.bank.port ready.port_image.ins (past_in a.bank).value block ((past_in a.bank).words a.bank.port b)
    by_edge true is = (acted_here is b block memory at there).0 ∙ sym (cond-true {A = List (List V4)} (is_edge a.bank.image.units a.bank.turn) _ _ is)
    by_edge false is =
        held_before b block memory at (subst (λ list. slice_get list b ≡ Some memory) (same is) there) ∙ sym (cond-false {A = List (List V4)} (is_edge a.bank.image.units a.bank.turn) _ _ is)

  pub ready_begun : (bank : PortView) → bank ≡ after_begin a.bank → IsReady (record a { bank = bank; memories = memories })
  ready_begun bank begins = subst (λ view. IsReady (record a { bank = view; memories = memories })) (sym begins) (record {
    image = ready.image;
    first = ready.first;
    port_image = ready.port_image;
    is = ready.is;
    work = ready.work;
    fit = fit;
    words = words_begun;
    outs = λ begun edge b block memory at there. (acted_here edge b block memory at there).1;
  })

-- ---- an item is executed

-- the output bit that is executed next, and its memory
pub record IsNext (a : LaneArray) (port : PortImage) (slot : ℕ) (bit : OutBit) : Type 0 where
  pub there : slice_get a.bits a.bank.executed ≡ Some bit
  pub at : bit.slot ≡ slot
  pub fits : FitsBit a.memories bit
  pub answers : is_edge a.bank.image.units a.bank.turn ≡ true → answered_bit a.memories bit ≡ block_bit a.bank.port port.ins (past_in a.bank) a.blocks bit.block bit.bit

same_port_image : (a : LaneArray) (port : PortImage) (ready : IsReady a) → IsPort a.bank.image a.bank.port port → ready.port_image ≡ port
same_port_image a port ready is = let here = ready.is in cc

same_work : (a : LaneArray) (port : PortImage) → IsReady a → IsPort a.bank.image a.bank.port port → port.work ≡ Array a.blocks a.bits
same_work a port ready is = subst (λ q. q.work ≡ Array a.blocks a.bits) (same_port_image a port ready is) ready.work

pub next_bit : (a : LaneArray) (slot i : ℕ) (d : OutBit) → IsReady a → (can : CanExecute a.bank slot) → i ≡ a.bank.executed → IsNext a can.port slot (get_or a.bits i d)
next_bit a slot i d ready can same = of_bit (at_map (λ out. out.slot) a.bits a.bank.executed slot (subst (λ work. IsItemIn work a.bank.executed slot) (same_work a can.port ready can.is) can.next)) where
  of_memory : (bit : OutBit) (block : BlockWork) (o : Option LaneMemory) → slice_get a.bits a.bank.executed ≡ Some bit → bit.slot ≡ slot → slice_get a.blocks bit.block ≡ Some block → bit.bit < length block.word
      → slice_get a.memories bit.block ≡ o → IsNext a can.port slot bit
  of_memory bit block None there at block_there low none = absurd (within_some a.memories bit.block (omega (arith, slice_get_within a.blocks bit.block block block_there, ready.fit.long)) none)
  of_memory bit block (Some memory) there at block_there low memory_there = record {
    there = there;
    at = at;
    fits = record {
      memory = slice_get_within a.memories bit.block memory memory_there;
      within = λ other is. omega (arith, low, (ready.fit.each bit.block block other block_there is).outs);
    };
    answers = λ edge.
        ap (value_of_member (λ m. value_at m.outs bit.bit)) memory_there
        ∙ ap (λ outs. value_at outs bit.bit) (ready.outs can.begun edge bit.block block memory block_there memory_there)
        ∙ ap (λ q. value_at (block_act a.bank.port q.ins (past_in a.bank).value block ((past_in a.bank).words a.bank.port bit.block)).outputs bit.bit) (same_port_image a can.port ready can.is)
        ∙ ap (value_of_member (λ b. value_at (block_act a.bank.port can.port.ins (past_in a.bank).value b ((past_in a.bank).words a.bank.port bit.block)).outputs bit.bit)) (sym block_there);
  }

  of_bit : (bit : OutBit) × (slice_get a.bits a.bank.executed ≡ Some bit) × (bit.slot ≡ slot) → IsNext a can.port slot (get_or a.bits i d)
  of_bit (bit, there, at) =
      let right : IsBit a.blocks bit = (work_right a.bank.image a.bank.port can.port a.blocks a.bits ready.image can.is (same_work a can.port ready can.is)).1 a.bank.executed bit there in
      let found : get_or a.bits i d ≡ bit = ap (λ k. get_or a.bits k d) same ∙ get_or_from_slice_get a.bits a.bank.executed bit d there in
      subst (IsNext a can.port slot) (sym found) (of_memory bit right.0 (slice_get a.memories bit.block) there at right.1 right.2 refl)

-- it has executed so many items and received so many values
pub ready_moved : (a : LaneArray) (bank : PortView) (executed received : ℕ) → IsReady a → bank ≡ record a.bank { executed = executed; received = received } → IsReady (record a { bank = bank })
ready_moved a bank executed received ready same = subst (λ view. IsReady (record a { bank = view })) (sym same) (record {
  image = ready.image;
  first = ready.first;
  port_image = ready.port_image;
  is = ready.is;
  work = ready.work;
  fit = ready.fit;
  words = ready.words;
  outs = ready.outs;
})

-- the turn ends, and the words are those of it
pub ready_ended : (a : LaneArray) (bank : PortView) → IsReady a → a.bank.begun ≡ true → bank ≡ after_end a.bank → IsReady (record a { bank = bank })
ready_ended a bank ready begun same = subst (λ view. IsReady (record a { bank = view })) (sym same) (record {
  image = ready.image;
  first = omega arith;
  port_image = ready.port_image;
  is = ready.is;
  work = ready.work;
  fit = ready.fit;
  words = λ b block memory at there.
      ready.words b block memory at there
      ∙ ap (λ held. (frame a.bank.image a.bank.stimulus (if held then a.bank.turn else a.bank.turn - 1)).words a.bank.port b) begun
      ∙ ap (λ turn. (frame a.bank.image a.bank.stimulus turn).words a.bank.port b) (sym (add-sub_cancel a.bank.turn 1));
  outs = λ is edge. absurd (not_begun is);
}) where
  not_begun : false ≡ true → ⊥
  not_begun e = cc

-- a register's value does not depend on what it would take where there is no edge
held_same : (image : Image) (turn : ℕ) (one other kept : V4) → (is_edge image.units turn ≡ true → one ≡ other) → registered (timing_of image) turn one kept ≡ registered (timing_of image) turn other kept
held_same image turn one other kept same = by_edge (is_edge image.units turn) refl where
  by_edge : (edge : Bool) → is_edge image.units turn ≡ edge → registered (timing_of image) turn one kept ≡ registered (timing_of image) turn other kept
  by_edge true is = ap (λ v. registered (timing_of image) turn v kept) (same is)
  by_edge false is = ap (held_by one) is ∙ sym (ap (held_by other) is) where
    held_by : V4 → Bool → V4
    held_by v edge = if turn == 1 then initial_value image.init else if edge then v else kept

pub next_answers : (a : LaneArray) (slot : ℕ) (bit : OutBit) (answer v : V4) → (ready : IsReady a) → (can : CanExecute a.bank slot) → IsNext a can.port slot bit
    → answer ≡ answered_bit a.memories bit → IsHeld a.bank slot answer v → v ≡ value_in a.bank slot
next_answers a slot bit answer v ready can next is held =
    held can.port a.bank.executed can.is can.next
    ∙ held_same a.bank.image a.bank.turn answer (block_bit a.bank.port can.port.ins (past_in a.bank) a.blocks bit.block bit.bit) ((past_in a.bank).value a.bank.port slot) (λ edge. is ∙ next.answers edge)
    ∙ ap (λ s. registered (timing_of a.bank.image) a.bank.turn (block_bit a.bank.port can.port.ins (past_in a.bank) a.blocks bit.block bit.bit) ((past_in a.bank).value a.bank.port s)) (sym next.at)
    ∙ ap (value_of_member (bit_value a.bank.image a.bank.turn a.bank.port can.port.ins (past_in a.bank) a.blocks)) (sym next.there)
    ∙ ap (λ work. item_value a.bank.image a.bank.stimulus a.bank.turn (past_in a.bank) (now_in a.bank).value a.bank.port can.port.ins work a.bank.executed) (sym (same_work a can.port ready can.is))
    ∙ sym (item_meets a.bank can.port a.bank.executed slot ready.image ready.first can.is can.next)
