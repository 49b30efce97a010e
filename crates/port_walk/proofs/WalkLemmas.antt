-- A port at a stop of its turn: what comes next there, and which stop is after it, whatever values the port has.
use Rattle.std.proofs.Common.{◌≡◌, inl, inr, ℕ, ◌*◌, ◌+◌, ◌-◌, ◌<◌, ◌≤◌, List, [], ◌∷◌, ◌++◌, length, take, get_or, slice_get, Some, sym, ap, ◌∙◌, subst, refl, arith}
use Rattle.std.proofs.lemmas.Option.{slice_get_within, slice_get-get_or, slice_get_cases, get_or_from_slice_get}
use Rattle.std.proofs.lemmas.{Bool.cases_lt, Bool.le-leb, List.length-map, List.take_more}
use Rattle.list_laws.proofs.Places.{one_there, past_end}
use Rattle.limits.specs.declared.TheConstants.{MAX_SLOTS}
use Rattle.logic_four.specs.declared.V4.{V4}
use Rattle.image_defs.specs.Places.{Each, IsPort, item_slots, in_slots, out_slots}
use Rattle.image_defs.specs.declared.image.{Image.Image, LinkIn.LinkIn, LinkOut.LinkOut, PortImage.PortImage}
use Rattle.image_defs.specs.{WellFormed.IsPortImage, WellFormed.IsWellFormed, Ports.View, Ports.lane_port}
use Rattle.port_bank.specs.declared.word.Word as word
use Rattle.image_defs.proofs.lemmas.PlaceLemmas.{Rises, rises, at_map}
use Rattle.event_defs.specs.Next.{SendsNext, ReceivesNext, EndsNext, IsNext}
use Rattle.event_defs.proofs.lemmas.NextLemmas.{sends_one, receives_one, sends_not_receives, sends_not_ends, receives_not_ends}
use Rattle.event_defs.proofs.lemmas.{PaceLemmas.same_port, SlotLemmas.to_map}
use Rattle.port_walk.specs.declared.upcoming.Upcoming.TheVariants.{Ask, Put, Take, Tell, Done}
use Rattle.port_walk.specs.Kept.{Parts, inner, view_of, IsKept}
use Rattle.port_walk.specs.Stands.{action_of, IsEnding, IsReceiving, IsSending}
use Rattle.port_walk.specs.Stops.{AreStops, IsFront, IsStop, counts, kind_at, slot_at}
use Rattle.port_walk.specs.declared.{readers.Readers.Readers, stops.Stop.Stop, stops.StopKind.StopKind}
use Rattle.port_walk.specs.declared.stops.StopKind.TheVariants.{Send, Receive, End}
use Rattle.port_walk.specs.{declared.upcoming.Upcoming.Upcoming, code.Readers.IsNextOfSend, Rows.AreReaders, Rows.IsRow, Rows.start_of}
use Rattle.port_walk.specs.code.Stops.{ArePlaces, HasFewReaders}
use Rattle.port_bank.specs.{Runs.CanRun, Words.InEachLane}
use Rattle.port_bank.proofs.lemmas.LaneLemmas.{in_each}
use Rattle.port_walk.proofs.StopLemmas.{places_few, tells, counts_more, send_grows, receipt_grows}
use Rattle.port_walk.proofs.CursorLemmas.{next_send, next_receipt, next_end, received_before}

-- what the look past a list's end would give
abbrev pub no_stop : Stop
no_stop = record { kind = Send; slot = 0; items = 0 }

-- ---- the places of a port's sends and receipts

module _ (image : Image) (p : ℕ) (port_image : PortImage) (good : IsPortImage image p port_image) where
  pub out_places : ArePlaces image.slots (out_slots port_image.outs)
  out_places = record {
    rising = good.outs;
    low = λ i slot at.
        let link = at_map (λ (l : LinkOut). l.slot) port_image.outs i slot at in
        let item = (good.sends i link.0 link.1).item in
        let low = good.item_slots_within item.0 link.0.slot item.1 in
        let same : link.0.slot ≡ slot = link.2 in
        omega arith;
  }

  pub in_places : ArePlaces image.slots (in_slots port_image.ins)
  in_places = record { rising = good.ins; low = good.in_slots_within }

-- ---- and of their readers

module _ (image : Image) (good : IsWellFormed image) (p : ℕ) (port_image : PortImage) (is : IsPort image p port_image) where
  pub few_sends : length port_image.outs ≤ MAX_SLOTS
  few_sends =
      let few = places_few image.slots (out_slots port_image.outs) (out_places image p port_image (good.ports p port_image is)) in
      let slots = good.slots in
      omega (arith, length-map port_image.outs (λ (l : LinkOut). l.slot))

  pub few_readers : Each HasFewReaders port_image.outs
  few_readers i link at =
      let sends = (good.ports p port_image is).sends i link at in
      let low : Each (λ r. r < length image.ports) link.readers = λ k r there. let reader = sends.received k r there in slice_get_within image.ports r reader.port reader.is in
      let few = places_few (length image.ports) link.readers (record { rising = sends.rising; low = low }) in
      let most = good.most_ports in
      omega arith

-- the number of an item in the last slot up to which the items are counted
pub last_item : (items : List ℕ) (i n slot : ℕ) → Rises items → IsFront items (slot + 1) n → slice_get items i ≡ Some slot → i + 1 ≡ n
last_item items i n slot up front at = elim (cases_lt i n) [
  | inl before ↦ elim (cases_lt (i + 1) n) [
    | inl less ↦ elim (slice_get_cases items (i + 1)).1 [
      | inl h ↦ let later = up i (i + 1) slot h.0 (omega arith) at h.2 in let low = front.before (i + 1) h.0 h.2 less in absurd (omega arith)
      | inr h ↦ let past = h.0 in let within = front.within in absurd (omega arith)
    ]
    | inr more ↦ omega arith
  ]
  | inr after ↦ let high = front.rest i slot at after in absurd (omega arith)
]

-- no fewer slots are before a bound that is no less
pub front_grows : (slots : List ℕ) (bound later n m : ℕ) → IsFront slots bound n → IsFront slots later m → bound ≤ later → n ≤ m
front_grows slots bound later n m one other more = elim (cases_lt m n) [
  | inl less ↦ elim (slice_get_cases slots m).1 [
    | inl h ↦ let low = one.before m h.0 h.2 less in let high = other.rest m h.0 h.2 (omega arith) in absurd (omega arith)
    | inr h ↦ let past = h.0 in let within = one.within in absurd (omega arith)
  ]
  | inr more ↦ more
]

-- all of them, where all are before the bound
pub front_all : (slots : List ℕ) (bound n : ℕ) → IsFront slots bound n → ((i s : ℕ) → slice_get slots i ≡ Some s → s < bound) → n ≡ length slots
front_all slots bound n front low = elim (cases_lt n (length slots)) [
  | inl less ↦ elim (slice_get_cases slots n).1 [
    | inl h ↦ let high = front.rest n h.0 h.2 (omega arith) in let below = low n h.0 h.2 in absurd (omega arith)
    | inr h ↦ let past = h.0 in absurd (omega arith)
  ]
  | inr more ↦ let within = front.within in omega arith
]

-- the stops of a turn, where they were made of the same slots
pub stops_read : (slots : ℕ) (items items' : List ℕ) (outs outs' : List LinkOut) (ins ins' : List LinkIn) (stops : List Stop) → items' ≡ items → outs' ≡ outs → ins' ≡ ins
    → AreStops (out_slots outs') (in_slots ins') slots items' stops → AreStops (out_slots outs) (in_slots ins) slots items stops
stops_read slots items items' outs outs' ins ins' stops same_items same_outs same_ins are =
    subst (λ xs. AreStops (out_slots outs) (in_slots ins) slots xs stops) same_items
    (subst (λ xs. AreStops (out_slots xs) (in_slots ins) slots items' stops) same_outs
    (subst (λ xs. AreStops (out_slots outs') (in_slots xs) slots items' stops) same_ins are))

-- the first slots of a list with one more
one_more : (xs : List ℕ) (n x : ℕ) → slice_get xs n ≡ Some x → take (n + 1) xs ≡ take n xs ++ x ∷ []
one_more xs n x at = take_more xs n 0 (slice_get_within xs n x at) ∙ ap (λ s. take n xs ++ s ∷ []) (get_or_from_slice_get xs n x 0 at)

-- ---- a walk at its stop

module _ {W P F S : Type 0} (m : word.Ghosts W P F S) {a : Parts W S} (kept : IsKept m a) where
  abbrev outs : List ℕ
  outs = out_slots a.port_image.outs

  abbrev ins : List ℕ
  ins = in_slots a.port_image.ins

  abbrev puts : List ℕ
  puts = take a.sent outs

  abbrev takes : List ℕ
  takes = take a.took ins

  pub good : IsPortImage a.view.image a.view.port a.port_image
  good = kept.image.ports a.view.port a.port_image kept.port_image

  out_up : Rises outs
  out_up = rises outs good.outs

  in_up : Rises ins
  in_up = rises ins good.ins

  out_length : length outs ≡ length a.port_image.outs
  out_length = length-map a.port_image.outs (λ (l : LinkOut). l.slot)

  in_length : length ins ≡ length a.port_image.ins
  in_length = length-map a.port_image.ins (λ (l : LinkIn). l.slot)

  pub same_port_image : (port_image : PortImage) → IsPort a.view.image a.view.port port_image → a.port_image ≡ port_image
  same_port_image port_image is = same_port a.view.image a.view.port a.port_image port_image kept.port_image is

  within_at : a.at < length a.stops
  within_at = omega (arith, kept.stops.count, kept.at, kept.sent, kept.took, out_length, in_length)

  -- the stop at which it stands
  pub found : (stops : List Stop) → stops ≡ a.stops → slice_get a.stops a.at ≡ Some (get_or stops a.at no_stop)
  found stops same = slice_get-get_or a.stops a.at no_stop within_at ∙ ap (λ xs. Some (get_or xs a.at no_stop)) (sym same)

  pub readers_there : (link : LinkOut) (known : List ℕ) → length known ≡ length a.view.image.ports → slice_get a.port_image.outs a.sent ≡ Some link → Each (λ r. r < length known) link.readers
  readers_there link known wide is i r at =
      let reader = (good.sends a.sent link is).received i r at in
      let within = slice_get_within a.view.image.ports r reader.port reader.is in
      omega arith

  -- what is put with one send more, and what is taken with one receipt more
  pub puts_more : (link : LinkOut) → slice_get a.port_image.outs a.sent ≡ Some link → take (a.sent + 1) outs ≡ puts ++ link.slot ∷ []
  puts_more link is = one_more outs a.sent link.slot (to_map (λ (l : LinkOut). l.slot) a.port_image.outs a.sent link is)

  pub takes_more : (link : LinkIn) → slice_get a.port_image.ins a.took ≡ Some link → take (a.took + 1) ins ≡ takes ++ link.slot ∷ []
  takes_more link is = one_more ins a.took link.slot (to_map (λ (l : LinkIn). l.slot) a.port_image.ins a.took link is)

  module _ (stop : Stop) (at : slice_get a.stops a.at ≡ Some stop) where
    pub is_stop : IsStop outs ins a.view.image.slots a.slots a.sent a.took stop
    is_stop = let is = kept.stops.each a.at stop at in rw kept.come at is

    pub send_here : stop.kind ≡ Send → (link : LinkOut) × SendsNext a.port_image puts takes a.sent link × (link.slot ≡ stop.slot)
    send_here kind =
        let next = next_send a.port_image a.view.image.slots a.sent a.took out_up in_up (sym is_stop.kind ∙ kind) in
        (next.0, next.1, next.2 ∙ sym is_stop.slot)

    pub receipt_here : stop.kind ≡ Receive → (link : LinkIn) × ReceivesNext a.port_image puts takes a.took link × (link.slot ≡ stop.slot)
    receipt_here kind =
        let next = next_receipt a.port_image a.view.image.slots a.sent a.took out_up in_up (sym is_stop.kind ∙ kind) in
        (next.0, next.1, next.2 ∙ sym is_stop.slot)

    pub end_here : stop.kind ≡ End → EndsNext a.port_image puts takes
    end_here kind = next_end a.port_image a.view.image.slots a.sent a.took out_up in_up (sym is_stop.kind ∙ kind)

    -- the link that is sent, and its readers
    pub record IsLinkHere (readers : Readers) (link : LinkOut) : Type 0 where
      pub is : slice_get a.port_image.outs a.sent ≡ Some link
      pub within : a.sent < length a.port_image.outs
      pub row : IsRow readers.all (start_of readers a.sent) (start_of readers (a.sent + 1)) link.readers

    pub link_here : (readers : Readers) → AreReaders (length a.port_image.outs) a.port_image.outs readers → stop.kind ≡ Send → (link : LinkOut) × IsLinkHere readers link
    link_here readers are kind =
        let next = send_here kind in
        let within = slice_get_within a.port_image.outs a.sent next.0 next.1.is in
        (next.0, record { is = next.1.is; within = within; row = are.each a.sent next.0 within next.1.is })

    pub slot_sent : stop.kind ≡ Send → (link : LinkOut) → slice_get a.port_image.outs a.sent ≡ Some link → link.slot ≡ stop.slot
    slot_sent kind link is = let next = send_here kind in ap (λ (l : LinkOut). l.slot) (one_there a.port_image.outs a.sent a.sent link next.0 refl is next.1.is) ∙ next.2

    -- the last item up to the stop is the one that is sent
    pub last_here : (link : LinkOut) → slice_get a.port_image.outs a.sent ≡ Some link → link.slot ≡ stop.slot → (item : ℕ) × (item + 1 ≡ stop.items) × (slice_get (item_slots a.port_image.work) item ≡ Some stop.slot)
    last_here link is slot =
        let item = (good.sends a.sent link is).item in
        let there : slice_get (item_slots a.port_image.work) item.0 ≡ Some stop.slot = item.1 ∙ ap Some slot in
        let front : IsFront (item_slots a.port_image.work) (stop.slot + 1) stop.items = subst (λ xs. IsFront xs (stop.slot + 1) stop.items) kept.slots is_stop.front in
        (item.0, last_item (item_slots a.port_image.work) item.0 stop.items stop.slot (rises (item_slots a.port_image.work) good.items) front there, there)

    -- the next event where a Put is missing
    module _ (known : List ℕ) (turn banks until : ℕ) (value : ℕ → V4) (early : turn ≤ until) where
      pub next_sent : (readers : List ℕ) (turns : ℕ) (link : LinkOut) (next : Upcoming) → stop.kind ≡ Send → turns ≡ turn - banks → slice_get a.port_image.outs a.sent ≡ Some link → readers ≡ link.readers
          → IsNextOfSend readers known turns stop.slot next → IsNext a.port_image (record { turn = turn; puts = puts; takes = takes; known = known }) banks until value (action_of value next)
      next_sent readers turns link next kind bar is same = of_next next where
        sends_link : SendsNext a.port_image puts takes a.sent link
        sends_link = let here = send_here kind in subst (λ (l : LinkOut). SendsNext a.port_image puts takes a.sent l) (one_there a.port_image.outs a.sent a.sent here.0 link refl here.1.is is) here.1

        of_next : (next : Upcoming) → IsNextOfSend readers known turns stop.slot next → IsNext a.port_image (record { turn = turn; puts = puts; takes = takes; known = known }) banks until value (action_of value next)
        of_next (Ask reader) lagging = (
          early,
          record {
            i = a.sent;
            link = link;
            sends = sends_link;
            reads = (lagging.reads.0, ap (λ xs. slice_get xs lagging.reads.0) (sym same) ∙ lagging.reads.1);
            lags = let lags = lagging.lags in omega arith;
            least = λ r stands less. let far = lagging.least r (stands.0, ap (λ xs. slice_get xs stands.0) same ∙ stands.1) less in omega arith;
          },
        )
        of_next (Put s) (none, slot) = (
          early,
          record {
            i = a.sent;
            link = link;
            slot_is = slot_sent kind link is ∙ sym slot;
            sends = sends_link;
            ready = λ r stands. let far = none.each r (stands.0, ap (λ xs. slice_get xs stands.0) same ∙ stands.1) in omega arith;
          },
          refl,
        )
        of_next (Take s) wrong = absurd wrong
        of_next Tell wrong = absurd wrong
        of_next Done wrong = absurd wrong

    -- ---- which event it is

    pub record IsSendHere (i : ℕ) (link : LinkOut) : Type 0 where
      pub kind : stop.kind ≡ Send
      pub number : i ≡ a.sent
      pub is : slice_get a.port_image.outs a.sent ≡ Some link
      pub slot : link.slot ≡ stop.slot

    pub sending_here : (i : ℕ) (link : LinkOut) → IsSending (view_of a).stand i link → IsSendHere i link
    sending_here i link sending = of_kind stop.kind refl where
      next : SendsNext a.port_image puts takes i link
      next = subst (λ (s : PortImage). SendsNext s puts takes i link) (sym (same_port_image sending.port_image sending.is)) sending.next

      of_kind : (kind : StopKind) → stop.kind ≡ kind → IsSendHere i link
      of_kind Send is =
          let here = send_here is in
          let one = sends_one a.view.image kept.image a.view.port a.port_image kept.port_image puts takes i a.sent link here.0 next here.1 in
          record {
            kind = is;
            number = one.0;
            is = here.1.is ∙ ap Some (sym one.1);
            slot = ap (λ (l : LinkOut). l.slot) one.1 ∙ here.2;
          }
      of_kind Receive is =
          let here = receipt_here is in
          absurd (sends_not_receives a.view.image kept.image a.view.port a.port_image kept.port_image puts takes i a.took link here.0 next here.1)
      of_kind End is = absurd (sends_not_ends a.view.image kept.image a.view.port a.port_image kept.port_image puts takes i link next (end_here is))

    pub record IsReceiptHere (j : ℕ) (link : LinkIn) : Type 0 where
      pub kind : stop.kind ≡ Receive
      pub number : j ≡ a.took
      pub is : slice_get a.port_image.ins a.took ≡ Some link
      pub slot : link.slot ≡ stop.slot

    pub receiving_here : (j : ℕ) (link : LinkIn) → IsReceiving (view_of a).stand j link → IsReceiptHere j link
    receiving_here j link receiving = of_kind stop.kind refl where
      next : ReceivesNext a.port_image puts takes j link
      next = subst (λ (s : PortImage). ReceivesNext s puts takes j link) (sym (same_port_image receiving.port_image receiving.is)) receiving.next

      of_kind : (kind : StopKind) → stop.kind ≡ kind → IsReceiptHere j link
      of_kind Send is =
          let here = send_here is in
          absurd (sends_not_receives a.view.image kept.image a.view.port a.port_image kept.port_image puts takes a.sent j here.0 link here.1 next)
      of_kind Receive is =
          let here = receipt_here is in
          let one = receives_one a.view.image kept.image a.view.port a.port_image kept.port_image puts takes j a.took link here.0 next here.1 in
          record {
            kind = is;
            number = one.0;
            is = here.1.is ∙ ap Some (sym one.1);
            slot = ap (λ (l : LinkIn). l.slot) one.1 ∙ here.2;
          }
      of_kind End is = absurd (receives_not_ends a.view.image kept.image a.view.port a.port_image kept.port_image puts takes j link next (end_here is))

    pub ending_here : IsEnding (view_of a).stand → stop.kind ≡ End
    ending_here ending = of_kind stop.kind refl where
      next : EndsNext a.port_image puts takes
      next = subst (λ (s : PortImage). EndsNext s puts takes) (sym (same_port_image ending.port_image ending.is)) ending.next

      of_kind : (kind : StopKind) → stop.kind ≡ kind → stop.kind ≡ End
      of_kind Send is = let here = send_here is in absurd (sends_not_ends a.view.image kept.image a.view.port a.port_image kept.port_image puts takes a.sent here.0 here.1 next)
      of_kind Receive is = let here = receipt_here is in absurd (receives_not_ends a.view.image kept.image a.view.port a.port_image kept.port_image puts takes a.took here.0 here.1 next)
      of_kind End is = is

    -- ---- the stop after

    -- the next stop, at which the port has sent and received so often
    pub record IsAfter (sent took : ℕ) (next : Stop) : Type 0 where
      pub come : counts outs ins (a.at + 1) ≡ (sent, took)
      pub count : a.at + 1 ≡ sent + took
      pub sent_within : sent ≤ length a.port_image.outs
      pub took_within : took ≤ length a.port_image.ins
      pub there : slice_get a.stops (a.at + 1) ≡ Some next
      pub is : IsStop outs ins a.view.image.slots a.slots sent took next
      pub grows : stop.slot ≤ next.slot

    after : (sent took : ℕ) (stops : List Stop) → stops ≡ a.stops → counts outs ins (a.at + 1) ≡ (sent, took) → a.at + 1 ≡ sent + took → sent ≤ length a.port_image.outs → took ≤ length a.port_image.ins
        → stop.slot ≤ slot_at outs ins a.view.image.slots sent took → IsAfter sent took (get_or stops (a.at + 1) no_stop)
    after sent took stops same come count sent_within took_within grows = record {
      come = come;
      count = count;
      sent_within = sent_within;
      took_within = took_within;
      there = there;
      is = is;
      grows = let slot = is.slot in omega arith;
    } where
      there : slice_get a.stops (a.at + 1) ≡ Some (get_or stops (a.at + 1) no_stop)
      there = slice_get-get_or a.stops (a.at + 1) no_stop (omega (arith, kept.stops.count, out_length, in_length)) ∙ ap (λ xs. Some (get_or xs (a.at + 1) no_stop)) (sym same)

      is : IsStop outs ins a.view.image.slots a.slots sent took (get_or stops (a.at + 1) no_stop)
      is = let is = kept.stops.each (a.at + 1) (get_or stops (a.at + 1) no_stop) there in rw come at is

    kind_here : (kind : StopKind) → stop.kind ≡ kind → kind_at outs ins a.sent a.took ≡ kind
    kind_here kind is = sym is_stop.kind ∙ is

    slot_here : stop.slot ≡ slot_at outs ins a.view.image.slots a.sent a.took
    slot_here = is_stop.slot

    pub after_send : (stops : List Stop) → stops ≡ a.stops → stop.kind ≡ Send → IsAfter (a.sent + 1) a.took (get_or stops (a.at + 1) no_stop)
    after_send stops same kind =
        let here = send_here kind in
        let within = slice_get_within a.port_image.outs a.sent here.0 here.1.is in
        let grows = send_grows outs ins a.view.image.slots (out_places a.view.image a.view.port a.port_image good) (in_places a.view.image a.view.port a.port_image good) a.sent a.took (kind_here Send kind) in
        let slot = slot_here in
        after (a.sent + 1) a.took stops same (counts_more outs ins a.at a.sent a.took Send kept.come (kind_here Send kind)) (omega (arith, kept.at)) (omega arith) kept.took (omega arith)

    pub after_receipt : (stops : List Stop) → stops ≡ a.stops → stop.kind ≡ Receive → IsAfter a.sent (a.took + 1) (get_or stops (a.at + 1) no_stop)
    after_receipt stops same kind =
        let here = receipt_here kind in
        let within = slice_get_within a.port_image.ins a.took here.0 here.1.is in
        let grows = receipt_grows outs ins a.view.image.slots (out_places a.view.image a.view.port a.port_image good) (in_places a.view.image a.view.port a.port_image good) a.sent a.took (kind_here Receive kind) in
        let slot = slot_here in
        after a.sent (a.took + 1) stops same (counts_more outs ins a.at a.sent a.took Receive kept.come (kind_here Receive kind)) (omega (arith, kept.at)) kept.sent (omega arith) (omega arith)

    -- ---- what the port within may do

    -- the items up to the stop after, in each lane
    pub can_run : (view : View S) (slots : List ℕ) (sent took : ℕ) (next : Stop) → a.turn ≤ a.until → view ≡ record (inner a stop.items) { received = took } → slots ≡ a.slots → IsAfter sent took next
        → InEachLane m (λ v. CanRun v slots stop.items next.items) view
    can_run view slots sent took next early inside same after = in_each m.lanes (λ l. CanRun (lane_port m.stimulus l view) slots stop.items next.items) (λ l low_lane. record {
      begun = ap (λ (v : View S). v.begun) inside ∙ le-leb a.turn a.until early;
      port_image = a.port_image;
      is = subst (λ (v : View S). IsPort v.image v.port a.port_image) (sym inside) kept.port_image;
      slots_are = same ∙ kept.slots;
      from_is = ap (λ (v : View S). v.executed) inside;
      order = let grows = after.grows in front_grows a.slots (stop.slot + 1) (next.slot + 1) stop.items next.items is_stop.front after.is.front (omega arith);
      within = let within = after.is.front.within in subst (λ xs. next.items ≤ length xs) (sym same) within;
      received_before = λ k slot i link low at_k at_i less.
          let below = after.is.front.before k slot (ap (λ xs. slice_get xs k) (sym same) ∙ at_k) low in
          let place = after.is.slot in
          let got : i < took = received_before a.port_image a.view.image.slots sent took out_up in_up i link at_i (omega arith) in
          subst (λ n. i < n) (sym (ap (λ (v : View S). v.received) inside)) got;
    })

    -- at the end of the turn it has executed and received all
    pub all_done : stop.kind ≡ End → (stop.items ≡ length (item_slots a.port_image.work)) × (a.took ≡ length a.port_image.ins)
    all_done kind =
        let end = (tells outs ins a.view.image.slots a.sent a.took).end (kind_here End kind) in
        let slot : stop.slot ≡ a.view.image.slots = slot_here ∙ end.slot in (
          subst (λ xs. stop.items ≡ length xs) kept.slots
              (front_all a.slots (stop.slot + 1) stop.items is_stop.front
              (λ i s there. let low = good.item_slots_within i s (ap (λ xs. slice_get xs i) (sym kept.slots) ∙ there) in omega arith)),
          let past = past_end ins a.took end.no_receipt in let long = in_length in let took = kept.took in omega arith,
        )
