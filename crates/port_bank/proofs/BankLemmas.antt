-- The bank of a plain port, or of one lane, keeps the values of its turn and of the turn before.
use Rattle.std.proofs.Common.{◌≡◌, ◌∙◌, ◌⊎◌, inl, inr, Bool, ℕ, zero, suc, ◌+◌, ◌-◌, ◌*◌, ◌<◌, ◌≤◌, true, false, List, [], ◌∷◌, length, replicate, get_or, set, slice_get, Some, sym, ap, subst, refl, arith}
use Rattle.std.proofs.lemmas.List.{length-set, length-append, length-replicate, get_or-set_same, get_or-set_other, get_or_append_left, get_or-replicate}
use Rattle.std.proofs.{Math.Nat.add-sub_cancel, lemmas.Nat.mul-le, lemmas.Bool.cases_lt}
use Rattle.std.proofs.{lemmas.Option.slice_get_within, lemmas.Option.slice_get-get_or, lemmas.Option.slice_get-map, Math.Seq.get_or-append-add}
use Rattle.std.specs.Option.{option_map}
use Rattle.logic_four.specs.declared.V4.TheVariants.{Zero, One, Undef, HighZ}
use Rattle.logic_four.specs.{declared.V4.V4, Values.code_of, Values.value_at}
use Rattle.net_defs.specs.{declared.stimulus.Stimulus.Stimulus, Time.is_edge, Time.cycle_count, Valid.IsValidStimulus}
use Rattle.image_defs.specs.Places.{item_slots, in_slots, sender_in, IsPort, IsItemIn}
use Rattle.image_defs.specs.Ports.{CanExecute, CanReceive, CanEnd, value_in}
use Rattle.image_defs.specs.declared.image.{Source.Source, Source.TheVariants.Own, Source.TheVariants.Got, Source.TheVariants.Const, LinkIn.LinkIn}
use Rattle.image_defs.specs.{declared.image.PortImage.PortImage, declared.image.Image.Image, WellFormed.IsWellFormed, Frames.image_value}
use Rattle.image_defs.proofs.lemmas.{PlaceLemmas.Rises, PlaceLemmas.rises, PlaceLemmas.sender_found, ValueLemmas.value_meets}
use Rattle.port_bank.specs.Banks.{IsRoom, Holds, HoldsAll, LaneBank, view_of, IsKeptInLane}
use Rattle.port_bank.specs.{declared.steps.Operand.Operand, Flat.operand_of, Reads.IsAtHand, Reads.IsRead, Reads.value_taken, code.Places.numbered}
use Rattle.port_bank.specs.code.Banks.{blank}
use Rattle.port_bank.proofs.PlaceLemmas.{numbered_even, numbered_past, numbered_this}

-- ---- places

-- a number stands in an ascending list no later than at its own place
pub place_low : (xs : List ℕ) (i s : ℕ) → Rises xs → slice_get xs i ≡ Some s → i ≤ s
place_low xs zero s up here = omega arith
place_low xs (suc i) s up here =
    let below : slice_get xs i ≡ Some (get_or xs i 0) = slice_get-get_or xs i 0 (omega (arith, slice_get_within xs (suc i) s here)) in
    omega (arith, place_low xs i (get_or xs i 0) up below, up i (suc i) (get_or xs i 0) s (omega arith) below here)

-- the slot of a link in
link_slot : (ins : List LinkIn) (i : ℕ) (link : LinkIn) → slice_get ins i ≡ Some link → slice_get (in_slots ins) i ≡ Some link.slot
link_slot ins i link there = slice_get-map (λ l. l.slot) ins i ∙ ap (option_map (λ l. l.slot)) there

pub slot_low : (image : Image) (p : ℕ) (port : PortImage) (i slot : ℕ) → IsWellFormed image → IsPort image p port → IsItemIn port.work i slot → slot < image.slots
slot_low image p port i slot fits is stands = (fits.ports p port is).item_slots_within i slot stands

pub link_low : (image : Image) (p : ℕ) (port : PortImage) (i : ℕ) (link : LinkIn) → IsWellFormed image → IsPort image p port → slice_get port.ins i ≡ Some link → link.slot < image.slots
link_low image p port i link fits is there = (fits.ports p port is).in_slots_within i link.slot (link_slot port.ins i link there)

-- how many items, and links, come before one is no more than its slot
pub item_low : (image : Image) (p : ℕ) (port : PortImage) (i slot : ℕ) → IsWellFormed image → IsPort image p port → IsItemIn port.work i slot → i ≤ slot
item_low image p port i slot fits is stands = place_low (item_slots port.work) i slot (rises (item_slots port.work) (fits.ports p port is).items) stands

pub receipt_low : (image : Image) (p : ℕ) (port : PortImage) (i : ℕ) (link : LinkIn) → IsWellFormed image → IsPort image p port → slice_get port.ins i ≡ Some link → i ≤ link.slot
receipt_low image p port i link fits is there =
    place_low (in_slots port.ins) i link.slot (rises (in_slots port.ins) (fits.ports p port is).ins) (link_slot port.ins i link there)

pub receipt_bounds : (image : Image) (p : ℕ) (port : PortImage) (i : ℕ) (link : LinkIn) → IsWellFormed image → IsPort image p port → slice_get port.ins i ≡ Some link → (i ≤ link.slot) × (link.slot < image.slots)
receipt_bounds image p port i link fits is there = (receipt_low image p port i link fits is there, link_low image p port i link fits is there)

same_port : (image : Image) (p : ℕ) (one other : PortImage) → IsPort image p one → IsPort image p other → one ≡ other
same_port image p one other is is_other = cc

-- ---- what is read

pub read_right : (a : LaneBank) (operand : Operand) → IsKeptInLane a → IsRead (view_of a) operand (numbered a.places operand.number)
read_right a operand kept port source is hand at =
    subst (λ o. numbered a.places o.number ≡ value_taken (view_of a) port source) (sym at) (of_source source hand)
  where
    of_link : (old : List V4) (turn i slot : ℕ) (link : LinkIn) → slice_get port.ins i ≡ Some link → link.slot ≡ slot
        → value_at old (a.image.slots + link.slot) ≡ image_value a.image a.stimulus turn link.sender link.slot
        → value_at old (a.image.slots + slot) ≡ image_value a.image a.stimulus turn (sender_in port.ins slot) slot
    of_link old turn i slot link there same got =
        subst (λ s. value_at old (a.image.slots + s) ≡ image_value a.image a.stimulus turn (sender_in port.ins s) s) same
        (got ∙ ap (λ q. image_value a.image a.stimulus turn q link.slot) (sym (sender_found port.ins i link (kept.image.ports a.port port is).ins there)))

    of_source : (source : Source) → IsAtHand (view_of a) port source → numbered a.places (operand_of a.image.slots source).number ≡ value_taken (view_of a) port source
    of_source (Own slot true) (i, stands, early) = numbered_past a.places slot ∙ (kept.past port is).own i slot (slice_get_within (item_slots port.work) i slot stands) stands
    of_source (Own slot false) (i, stands, early) = numbered_this a.places slot ∙ (kept.this port is).own i slot (early refl) stands
    of_source (Got slot true) (i, link, there, same, early) =
        numbered_past a.places (a.image.slots + slot) ∙ of_link a.places.past (a.turn - 1) i slot link there same ((kept.past port is).got i link (slice_get_within port.ins i link there) there)
    of_source (Got slot false) (i, link, there, same, early) = numbered_this a.places (a.image.slots + slot) ∙ of_link a.places.this a.turn i slot link there same ((kept.this port is).got i link (early refl) there)
    of_source (Const v) hand = numbered_even a.places (2 * a.image.slots + code_of v) ∙ kept.this_room.constants v

-- ---- what is kept

-- no slot's place is that of a constant
room_stays : (slots place : ℕ) (v : V4) (bank : List V4) → place < 2 * slots → IsRoom slots bank → IsRoom slots (set bank place v)
room_stays slots place v bank low room = record {
  places = length-set bank place v ∙ room.places;
  constants = λ w. get_or-set_other bank place (2 * slots + code_of w) v Undef (λ e. omega (arith, e)) ∙ room.constants w;
}

holds_executed : (image : Image) (stimulus : Stimulus) (turn p : ℕ) (port : PortImage) (bank : List V4) (n m slot : ℕ) (v : V4) → IsWellFormed image → IsPort image p port
    → IsRoom image.slots bank → Holds image stimulus turn p port n m bank → IsItemIn port.work n slot → v ≡ image_value image stimulus turn p slot
    → Holds image stimulus turn p port (n + 1) m (set bank slot v)
holds_executed image stimulus turn p port bank n m slot v fits is room holds here value = record {
  own = λ i s low stands. own_after i s low stands (cases_lt i n);
  got = λ i link low there.
      let slot_small : slot < image.slots = slot_low image p port n slot fits is here in
      get_or-set_other bank slot (image.slots + link.slot) v Undef (λ e. omega (arith, e)) ∙ holds.got i link low there;
} where
  own_after : (i s : ℕ) → i < n + 1 → IsItemIn port.work i s → (i < n) ⊎ (n ≤ i) → value_at (set bank slot v) s ≡ image_value image stimulus turn p s
  own_after i s low stands (inl before) =
      let less : s < slot = rises (item_slots port.work) (fits.ports p port is).items i n s slot before stands here in
      get_or-set_other bank slot s v Undef (λ e. omega (arith, e)) ∙ holds.own i s before stands
  own_after i s low stands (inr past) =
      let at : i ≡ n = omega arith in
      let there : slice_get (item_slots port.work) n ≡ Some s = subst (λ k. slice_get (item_slots port.work) k ≡ Some s) at stands in
      let same : slot ≡ s = cc in
      let slot_small : slot < image.slots = slot_low image p port n slot fits is here in
      let places = room.places in
      subst (λ t. value_at (set bank slot v) t ≡ image_value image stimulus turn p t) same (get_or-set_same bank slot v Undef (omega arith) ∙ value)

holds_received : (image : Image) (stimulus : Stimulus) (turn p : ℕ) (port : PortImage) (bank : List V4) (n m : ℕ) (link : LinkIn) (v : V4) → IsWellFormed image → IsPort image p port
    → IsRoom image.slots bank → Holds image stimulus turn p port n m bank → slice_get port.ins m ≡ Some link → v ≡ image_value image stimulus turn link.sender link.slot
    → Holds image stimulus turn p port n (m + 1) (set bank (image.slots + link.slot) v)
holds_received image stimulus turn p port bank n m link v fits is room holds here value = record {
  own = λ i s low stands.
      let small : s < image.slots = slot_low image p port i s fits is stands in
      get_or-set_other bank (image.slots + link.slot) s v Undef (λ e. omega (arith, e)) ∙ holds.own i s low stands;
  got = λ i other low there. got_after i other low there (cases_lt i m);
} where
  got_after : (i : ℕ) (other : LinkIn) → i < m + 1 → slice_get port.ins i ≡ Some other → (i < m) ⊎ (m ≤ i)
      → value_at (set bank (image.slots + link.slot) v) (image.slots + other.slot) ≡ image_value image stimulus turn other.sender other.slot
  got_after i other low there (inl before) =
      let less : other.slot < link.slot = rises (in_slots port.ins) (fits.ports p port is).ins i m other.slot link.slot before (link_slot port.ins i other there) (link_slot port.ins m link here) in
      get_or-set_other bank (image.slots + link.slot) (image.slots + other.slot) v Undef (λ e. omega (arith, e)) ∙ holds.got i other before there
  got_after i other low there (inr past) =
      let at : i ≡ m = omega arith in
      let too : slice_get port.ins m ≡ Some other = subst (λ k. slice_get port.ins k ≡ Some other) at there in
      let same : link ≡ other = cc in
      let small : link.slot < image.slots = link_low image p port m link fits is here in
      let places = room.places in
      subst (λ l. value_at (set bank (image.slots + link.slot) v) (image.slots + l.slot) ≡ image_value image stimulus turn l.sender l.slot) same
      (get_or-set_same bank (image.slots + link.slot) v Undef (omega arith) ∙ value)

pub kept_executed : (a : LaneBank) (slot : ℕ) (v : V4) → IsKeptInLane a → CanExecute (view_of a) slot → v ≡ value_in (view_of a) slot
    → IsKeptInLane (record a { executed = a.executed + 1; places = record a.places { this = set a.places.this slot v } })
kept_executed a slot v kept can value = record {
  image = kept.image;
  stimulus = kept.stimulus;
  first = kept.first;
  until = kept.until;
  running = kept.running;
  edge = kept.edge;
  this_room = let small : slot < a.image.slots = slot_low a.image a.port can.port a.executed slot kept.image can.is can.next in
      room_stays a.image.slots slot v a.places.this (omega arith) kept.this_room;
  past_room = kept.past_room;
  this = λ port is.
      holds_executed a.image a.stimulus a.turn a.port port a.places.this a.executed a.received slot v kept.image is kept.this_room (kept.this port is)
      (subst (λ q. IsItemIn q.work a.executed slot) (same_port a.image a.port can.port port can.is is) can.next) value;
  past = kept.past;
}

pub kept_received : (a : LaneBank) (slot : ℕ) (v : V4) → IsKeptInLane a → CanReceive (view_of a) slot v
    → IsKeptInLane (record a { received = a.received + 1; places = record a.places { this = set a.places.this (a.image.slots + slot) v } })
kept_received a slot v kept can =
    subst (λ s. IsKeptInLane (record a { received = a.received + 1; places = record a.places { this = set a.places.this (a.image.slots + s) v } })) can.slot_is record {
      image = kept.image;
      stimulus = kept.stimulus;
      first = kept.first;
      until = kept.until;
      running = kept.running;
      edge = kept.edge;
      this_room = let small : can.link.slot < a.image.slots = link_low a.image a.port can.port a.received can.link kept.image can.is can.next in
          room_stays a.image.slots (a.image.slots + can.link.slot) v a.places.this (omega arith) kept.this_room;
      past_room = kept.past_room;
      this = λ port is.
          holds_received a.image a.stimulus a.turn a.port port a.places.this a.executed a.received can.link v kept.image is kept.this_room (kept.this port is)
          (subst (λ q. slice_get q.ins a.received ≡ Some can.link) (same_port a.image a.port can.port port can.is is) can.next)
          (can.value ∙ ap (λ s. image_value a.image a.stimulus a.turn can.link.sender s) (sym can.slot_is));
      past = kept.past;
    }

-- the banks after they have changed places
pub kept_ended : (a : LaneBank) (edge : Bool) → IsKeptInLane a → CanEnd (view_of a) → edge ≡ is_edge a.image.units (a.turn + 1)
    → IsKeptInLane (record a { turn = a.turn + 1; begun = false; at_edge = edge; executed = 0; received = 0; places = record { this = a.places.past; past = a.places.this } })
kept_ended a edge kept can is_right = record {
  image = kept.image;
  stimulus = kept.stimulus;
  first = omega arith;
  until = omega (arith, kept.running can.begun);
  running = λ begun. cc;
  edge = is_right;
  this_room = kept.past_room;
  past_room = kept.this_room;
  this = λ port is. record { own = λ i slot low stands. absurd (omega (arith, low)); got = λ i link low there. absurd (omega (arith, low)) };
  past = λ port is.
      let same : can.port ≡ port = same_port a.image a.port can.port port can.is is in
      let items : a.executed ≡ length (item_slots port.work) = can.executed_all ∙ ap (λ q. length (item_slots q.work)) same in
      let receipts : a.received ≡ length port.ins = can.received_all ∙ ap (λ q. length q.ins) same in
      subst (λ t. HoldsAll a.image a.stimulus t a.port port a.places.this) (sym (add-sub_cancel a.turn 1))
      (subst (λ n. Holds a.image a.stimulus a.turn a.port port n (length port.ins) a.places.this) items
      (subst (λ m. Holds a.image a.stimulus a.turn a.port port a.executed m a.places.this) receipts (kept.this port is)));
}

-- the turns of a run
pub few_turns : (a : LaneBank) → IsKeptInLane a → a.turn ≤ 4096000001
few_turns a kept =
    omega (arith, kept.until, mul-le a.image.units (cycle_count a.stimulus) 4096 1000000 kept.image.units.1 kept.stimulus.cycles)

-- ---- before the first turn

constant_there : (slots : ℕ) (v : V4) → value_at (blank slots) (2 * slots + code_of v) ≡ v
constant_there slots v = subst (λ n. value_at (blank slots) (n + code_of v) ≡ v) (length-replicate (2 * slots) Undef) (get_or-append-add (replicate (2 * slots) Undef) _ (code_of v) Undef ∙ by_code v) where
  by_code : (w : V4) → get_or (Zero ∷ One ∷ Undef ∷ HighZ ∷ []) (code_of w) Undef ≡ w
  by_code Zero = refl
  by_code One = refl
  by_code Undef = refl
  by_code HighZ = refl

blank_room : (slots : ℕ) → IsRoom slots (blank slots)
blank_room slots = record {
  places = length-append (replicate (2 * slots) Undef) _ ∙ ap (λ n. n + 4) (length-replicate (2 * slots) Undef);
  constants = constant_there slots;
}

blank_at : (slots place : ℕ) → place < 2 * slots → value_at (blank slots) place ≡ Undef
blank_at slots place low =
    get_or_append_left (replicate (2 * slots) Undef) _ Undef place (omega (arith, length-replicate (2 * slots) Undef)) ∙ get_or-replicate (2 * slots) place Undef Undef low

blank_holds : (image : Image) (stimulus : Stimulus) (p : ℕ) (port : PortImage) → IsWellFormed image → IsPort image p port → HoldsAll image stimulus 0 p port (blank image.slots)
blank_holds image stimulus p port fits is = record {
  own = λ i slot low stands.
      let small : slot < image.slots = slot_low image p port i slot fits is stands in
      blank_at image.slots slot (omega arith) ∙ sym ((value_meets image stimulus fits).first p slot);
  got = λ i link low there.
      let small : link.slot < image.slots = link_low image p port i link fits is there in
      blank_at image.slots (image.slots + link.slot) (omega arith) ∙ sym ((value_meets image stimulus fits).first link.sender link.slot);
}

pub kept_new : (a : LaneBank) → IsWellFormed a.image → IsValidStimulus a.stimulus → a.turn ≡ 1 → a.begun ≡ false → a.at_edge ≡ false → a.executed ≡ 0 → a.received ≡ 0
    → a.places ≡ record { this = blank a.image.slots; past = blank a.image.slots } → IsKeptInLane a
kept_new a fits valid turn begun at_edge executed received places = record {
  image = fits;
  stimulus = valid;
  first = omega arith;
  until = omega arith;
  running = λ is. cc;
  edge = at_edge ∙ ap (is_edge a.image.units) (sym turn);
  this_room = subst (IsRoom a.image.slots) (sym (ap (λ p. p.this) places)) (blank_room a.image.slots);
  past_room = subst (IsRoom a.image.slots) (sym (ap (λ p. p.past) places)) (blank_room a.image.slots);
  this = λ port is. record { own = λ i slot low stands. absurd (omega arith); got = λ i link low there. absurd (omega arith) };
  past = λ port is.
      subst (λ t. HoldsAll a.image a.stimulus (t - 1) a.port port a.places.past) (sym turn)
      (subst (HoldsAll a.image a.stimulus 0 a.port port) (sym (ap (λ p. p.past) places)) (blank_holds a.image a.stimulus a.port port fits is));
}
