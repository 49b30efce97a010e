-- From stop to stop: what a port may do there, and what its walk keeps.
use Rattle.std.proofs.Common.{◌≡◌, ℕ, ◌+◌, ◌-◌, ◌<◌, ◌≤◌, Bool, true, false, nat_le, if◌then◌else◌, List, length, take, get_or, slice_get, slice_range, Option, Some, sym, ap, ◌∙◌, subst, refl, arith}
use Rattle.std.proofs.lemmas.{Bool.le-leb, Bool.leb-true, Option.slice_get-get_or, Option.slice_get_within}
use Rattle.std.specs.List.Sorted.{IsStrictlyIncreasing}
use Rattle.list_laws.proofs.Places.{one_there}
use Rattle.net_defs.specs.Valid.{IsValidStimulus}
use Rattle.image_defs.specs.Places.{Each, IsPort, item_slots, in_slots, out_slots}
use Rattle.image_defs.specs.Ports.{View, lane_port, after_end, after_receive, last_turn, CanReceive, CanEnd}
use Rattle.image_defs.specs.{declared.image.LinkOut.LinkOut, declared.image.PortImage.PortImage, WellFormed.IsWellFormed, WellFormed.IsPortImage}
use Rattle.image_defs.specs.Frames.{image_value}
use Rattle.image_defs.proofs.lemmas.PlaceLemmas.{rises}
use Rattle.port_bank.specs.declared.word.Word as word
use Rattle.port_bank.specs.{Runs.CanRun, Runs.HasRun, Runs.IsLastValue, Words.InEachLane, Words.InEachLaneOf}
use Rattle.port_bank.proofs.lemmas.LaneLemmas.{in_each, in_lane}
use Rattle.port_walk.specs.Kept.{Parts, view_of, inner, IsKept}
use Rattle.port_walk.specs.Walks.{Walked, IsNextValue, CanTakeValue, HasPut, HasTaken}
use Rattle.port_walk.specs.declared.{readers.Readers.Readers, stops.Stop.Stop, stops.StopKind.TheVariants.Send, upcoming.Upcoming.Upcoming}
use Rattle.port_walk.specs.{code.Readers.IsNextOfSend, Rows.AreReaders, Rows.IsRow, Rows.start_of, Stands.CanPut, Stands.IsNextOf, Stands.IsEnding}
use Rattle.port_walk.specs.{Stops.IsStop, Stops.AreStops, Stops.counts, code.Enters.CanEnter, code.Enters.HasEntered}
use Rattle.port_walk.proofs.WalkLemmas.{IsAfter, IsLinkHere, after_receipt, after_send, all_done, can_run, ending_here, found, good, link_here, no_stop, puts_more, readers_there, receiving_here, sending_here, takes_more}
use Rattle.port_walk.proofs.{BlockLemmas.le_late, CursorLemmas.received_before, KeptLemmas.holds_value, KeptLemmas.next_put}

module _ {W P F S : Type 0} (m : word.Ghosts W P F S) (a : Parts W S) (kept : IsKept m a) (stop : Stop) (at : slice_get a.stops a.at ≡ Some stop) where
  -- the value of what it sends next
  pub next_value : IsNextValue m (view_of a) a.value
  next_value = record {
    each = λ i link sending.
        let here = sending_here m kept stop at i link sending in
        in_each m.lanes (λ l. m.lane a.value l ≡ image_value a.view.image (m.stimulus a.view.image.columns a.view.stimulus l) a.turn a.view.port link.slot) (λ l low.
        holds_value m a kept stop at sending.early link here.is here.slot l low ∙ ap (image_value a.view.image (m.stimulus a.view.image.columns a.view.stimulus l) a.turn a.view.port) (sym here.slot));
  }

  -- ---- the port within

  -- how far the port has come at the stop, where it has received so often
  abbrev pub inner_at : Stop → ℕ → View S
  inner_at s took = record (inner a s.items) { received = took }

  pub inner_here : a.turn ≤ a.until → a.view ≡ inner_at stop a.took
  inner_here early = kept.inner ∙ ap (inner a) (kept.executed early stop at)

  pub kept_after : (view : View S) (rows : Option (ℕ × ℕ)) (value : W) (sent took : ℕ) (next : Stop) → a.turn ≤ a.until → IsAfter m kept stop at sent took next → view ≡ inner_at next took
      → InEachLaneOf m value (λ v x. IsLastValue v x) view → IsKept m (record a { view = view; rows = rows; at = a.at + 1; sent = sent; took = took; value = value })
  kept_after view rows value sent took next early after inside last =
      subst (λ v. IsKept m (record a { view = v; rows = rows; at = a.at + 1; sent = sent; took = took; value = value })) (sym inside) (record {
        image = kept.image;
        valid = kept.valid;
        port_image = kept.port_image;
        few = kept.few;
        first = kept.first;
        last = kept.last;
        slots = kept.slots;
        stops = kept.stops;
        readers = kept.readers;
        come = after.come;
        at = after.count;
        sent = after.sent_within;
        took = after.took_within;
        inner = refl;
        executed = λ _ s there. ap (λ (x : Stop). x.items) (one_there a.stops (a.at + 1) (a.at + 1) next s refl after.there there);
        rests = λ late. absurd (omega arith);
        unmoved = λ late. absurd (omega arith);
        value = subst (InEachLaneOf m value (λ v x. IsLastValue v x)) inside last;
      })

  -- it may receive the value of the stop's slot
  pub can_receive : (value : W) → CanTakeValue m (view_of a) value → InEachLaneOf m value (λ v x. CanReceive v stop.slot x) a.view
  can_receive value can = in_each m.lanes (λ l. CanReceive (lane_port m.stimulus l a.view) stop.slot (m.lane value l)) (λ l low.
      let here = receiving_here m kept stop at can.j can.link can.receiving in
      let early = can.receiving.early in
      let given = in_lane m.lanes (λ k. m.lane value k ≡ image_value a.view.image (m.stimulus a.view.image.columns a.view.stimulus k) a.turn can.link.sender can.link.slot) can.value l low in
      subst (λ (v : View S). CanReceive (lane_port m.stimulus l v) stop.slot (m.lane value l)) (sym (inner_here early)) (record {
        begun = le-leb a.turn a.until early;
        port = a.port_image;
        is = kept.port_image;
        link = can.link;
        next = here.is;
        slot_is = here.slot;
        value = given ∙ ap (image_value a.view.image (m.stimulus a.view.image.columns a.view.stimulus l) a.turn can.link.sender) here.slot;
      }))

  -- it may end its turn
  pub can_end : IsEnding (view_of a).stand → InEachLane m (λ v. CanEnd v) a.view
  can_end ending = in_each m.lanes (λ l. CanEnd (lane_port m.stimulus l a.view)) (λ l low.
      let early = ending.early in
      let done = all_done m kept stop at (ending_here m kept stop at ending) in
      subst (λ (v : View S). CanEnd (lane_port m.stimulus l v)) (sym (inner_here early)) (record { begun = le-leb a.turn a.until early; port = a.port_image; is = kept.port_image; executed_all = done.0; received_all = done.1 }))

-- ---- a Put or a Take, by the stops that were read

module _ {W P F S : Type 0} (m : word.Ghosts W P F S) {a : Parts W S} (kept : IsKept m a) (stops : List Stop) (same : stops ≡ a.stops) where
  abbrev pub here : Stop
  here = get_or stops a.at no_stop

  abbrev pub after : Stop
  after = get_or stops (a.at + 1) no_stop

  pub at_here : slice_get a.stops a.at ≡ Some here
  at_here = found m kept stops same

  -- where a Put is missing
  module _ (kind : here.kind ≡ Send) where
    pub link_sent : (link : LinkOut) × IsLinkHere m kept here at_here a.readers link
    link_sent = link_here m kept here at_here a.readers kept.readers kind

    pub row_sent : IsRow a.readers.all (start_of a.readers a.sent) (start_of a.readers (a.sent + 1)) link_sent.0.readers
    row_sent = link_sent.1.row

    module _ (readers : List ℕ) (are : readers ≡ slice_range a.readers.all (start_of a.readers a.sent) (start_of a.readers (a.sent + 1))) (known : List ℕ) where
      pub sent_there : length known ≡ length a.view.image.ports → Each (λ r. r < length known) readers
      sent_there wide = subst (Each (λ r. r < length known)) (sym (are ∙ row_sent.is)) (readers_there m kept link_sent.0 known wide link_sent.1.is)

      pub sent_rising : IsStrictlyIncreasing readers
      sent_rising = subst IsStrictlyIncreasing (sym (are ∙ row_sent.is)) ((good m kept).sends a.sent link_sent.0 link_sent.1.is).rising

      pub sent_next : (banks turns : ℕ) (next : Upcoming) → a.turn ≤ a.until → turns ≡ a.turn - banks → IsNextOfSend readers known turns here.slot next → IsNextOf (view_of a).stand known banks next
      sent_next banks turns next early bar sends = next_put m a kept here at_here known banks early readers turns link_sent.0 next kind bar link_sent.1.is (are ∙ row_sent.is) sends

  module _ (can : CanPut (view_of a).stand) where
    put_next : IsAfter m kept here at_here (a.sent + 1) a.took after
    put_next = after_send m kept here at_here stops same (sending_here m kept here at_here can.i can.link can.sending).kind

    pub put_within : a.at + 1 < length stops
    put_within = let within = slice_get_within a.stops (a.at + 1) after put_next.there in omega (arith, within, ap length same)

    pub put_runs : (slots : List ℕ) → slots ≡ a.slots → InEachLane m (λ v. CanRun v slots here.items after.items) a.view
    put_runs slots is = can_run m kept here at_here a.view slots (a.sent + 1) a.took after can.sending.early (inner_here m a kept here at_here can.sending.early) is put_next

    put_inside : (view : View S) → HasRun a.view view after.items → view ≡ inner_at m a kept here at_here after a.took
    put_inside view run = run ∙ ap (λ (v : View S). record v { executed = after.items }) (inner_here m a kept here at_here can.sending.early)

    pub put_kept : (view : View S) (rows : Option (ℕ × ℕ)) (value : W) → HasRun a.view view after.items → InEachLaneOf m value (λ v x. IsLastValue v x) view
        → IsKept m (record a { view = view; rows = rows; at = a.at + 1; sent = a.sent + 1; value = value })
    put_kept view rows value run last = kept_after m a kept here at_here view rows value (a.sent + 1) a.took after can.sending.early put_next (put_inside view run) last

    pub put_made : (view : View S) (rows : Option (ℕ × ℕ)) (value : W) → HasRun a.view view after.items → rows ≡ a.rows → (old : Walked S) → view_of a ≡ old
        → HasPut old (view_of (record a { view = view; rows = rows; at = a.at + 1; sent = a.sent + 1; value = value }))
    put_made view rows value run is old seen =
        subst (λ o. HasPut o (view_of (record a { view = view; rows = rows; at = a.at + 1; sent = a.sent + 1; value = value }))) seen (record {
          each = λ i link sending.
              ap (λ v. view_of (record a { view = v; rows = rows; at = a.at + 1; sent = a.sent + 1; value = value })) (put_inside view run)
              ∙ ap (λ r. record (view_of a) { rows = r; stand = record (view_of a).stand { puts = take (a.sent + 1) (out_slots a.port_image.outs) } }) is
              ∙ ap (λ ps. record (view_of a) { stand = record (view_of a).stand { puts = ps } }) (puts_more m kept link (sending_here m kept here at_here i link sending).is);
        })

  module _ (v : W) (can : CanTakeValue m (view_of a) v) where
    take_next : IsAfter m kept here at_here a.sent (a.took + 1) after
    take_next = after_receipt m kept here at_here stops same (receiving_here m kept here at_here can.j can.link can.receiving).kind

    pub take_within : a.at + 1 < length stops
    take_within = let within = slice_get_within a.stops (a.at + 1) after take_next.there in omega (arith, within, ap length same)

    pub take_receives : InEachLaneOf m v (λ view x. CanReceive view here.slot x) a.view
    take_receives = can_receive m a kept here at_here v can

    module _ (got : View S) (received : got ≡ after_receive a.view) where
      got_inside : got ≡ inner_at m a kept here at_here here (a.took + 1)
      got_inside = received ∙ ap after_receive (inner_here m a kept here at_here can.receiving.early)

      pub take_runs : (slots : List ℕ) → slots ≡ a.slots → InEachLane m (λ view. CanRun view slots here.items after.items) got
      take_runs slots is = can_run m kept here at_here got slots a.sent (a.took + 1) after can.receiving.early got_inside is take_next

      pub take_last : InEachLaneOf m a.value (λ view x. IsLastValue view x) got
      take_last =
          subst (InEachLaneOf m a.value (λ view x. IsLastValue view x)) (sym received)
          (in_each m.lanes (λ l. IsLastValue (lane_port m.stimulus l (after_receive a.view)) (m.lane a.value l)) (λ l low.
          record { each = (in_lane m.lanes (λ k. IsLastValue (lane_port m.stimulus k a.view) (m.lane a.value k)) kept.value l low).each }))

      take_inside : (view : View S) → HasRun got view after.items → view ≡ inner_at m a kept here at_here after (a.took + 1)
      take_inside view run = run ∙ ap (λ (x : View S). record x { executed = after.items }) got_inside

      pub take_kept : (view : View S) (rows : Option (ℕ × ℕ)) (value : W) → HasRun got view after.items → InEachLaneOf m value (λ x y. IsLastValue x y) view
          → IsKept m (record a { view = view; rows = rows; at = a.at + 1; took = a.took + 1; value = value })
      take_kept view rows value run last = kept_after m a kept here at_here view rows value a.sent (a.took + 1) after can.receiving.early take_next (take_inside view run) last

      pub take_made : (view : View S) (rows : Option (ℕ × ℕ)) (value : W) → HasRun got view after.items → rows ≡ a.rows → (old : Walked S) → view_of a ≡ old
          → HasTaken old (view_of (record a { view = view; rows = rows; at = a.at + 1; took = a.took + 1; value = value }))
      take_made view rows value run is old seen =
          subst (λ o. HasTaken o (view_of (record a { view = view; rows = rows; at = a.at + 1; took = a.took + 1; value = value }))) seen (record {
            each = λ j link receiving.
                ap (λ v. view_of (record a { view = v; rows = rows; at = a.at + 1; took = a.took + 1; value = value })) (take_inside view run)
                ∙ ap (λ r. record (view_of a) { rows = r; stand = record (view_of a).stand { takes = take (a.took + 1) (in_slots a.port_image.ins) } }) is
                ∙ ap (λ ts. record (view_of a) { stand = record (view_of a).stand { takes = ts } }) (takes_more m kept link (receiving_here m kept here at_here j link receiving).is);
          })

-- ---- a turn that begins

module _ {W P F S : Type 0} (m : word.Ghosts W P F S) where
  module _ (before : View S) (good : IsWellFormed before.image) (port_image : PortImage) (is : IsPort before.image before.port port_image) (slots : List ℕ) (stops : List Stop) (slots_are : slots ≡ item_slots port_image.work)
      (stops_are : AreStops (out_slots port_image.outs) (in_slots port_image.ins) before.image.slots slots stops) (read : List Stop) (same : read ≡ stops) (until : ℕ) (few : InEachLane m (λ v. until ≤ last_turn v) before) where
    abbrev entry : Stop
    entry = get_or read 0 no_stop

    right : IsPortImage before.image before.port port_image
    right = good.ports before.port port_image is

    -- the first stop is what was read
    there : slice_get stops 0 ≡ Some entry
    there = let count = stops_are.count in slice_get-get_or stops 0 no_stop (omega arith) ∙ ap (λ xs. Some (get_or xs 0 no_stop)) (sym same)

    first_stop : IsStop (out_slots port_image.outs) (in_slots port_image.ins) before.image.slots slots 0 0 entry
    unfolding counts
    first_stop = stops_are.each 0 entry there

    pub may_enter : (items : List ℕ) (runs : Bool) → items ≡ slots → before.begun ≡ false → before.executed ≡ 0 → (runs ≡ true → before.turn ≤ until) → InEachLane m (λ v. CanEnter v items entry.items runs) before
    may_enter items runs items_are fresh none low = in_each m.lanes (λ l. CanEnter (lane_port m.stimulus l before) items entry.items runs) (λ l low_lane. record {
      fresh = fresh;
      none = none;
      more = λ yes. let most = in_lane m.lanes (λ k. until ≤ last_turn (lane_port m.stimulus k before)) few l low_lane in omega (arith, most, low yes);
      port_image = port_image;
      is = is;
      slots_are = items_are ∙ slots_are;
      within = let within = first_stop.front.within in subst (λ xs. entry.items ≤ length xs) (sym items_are) within;
      received_before = λ k slot i link low_k at_k at_i less.
          let below = first_stop.front.before k slot (ap (λ xs. slice_get xs k) (sym items_are) ∙ at_k) low_k in
          let place = first_stop.slot in
          let none_before : i < 0 = received_before port_image before.image.slots 0 0 (rises (out_slots port_image.outs) right.outs) (rises (in_slots port_image.ins) right.ins) i link at_i (omega arith) in
          absurd (omega arith);
    })

    -- what the walk keeps where its port has entered the turn
    pub entered_kept : (view : View S) (rows : Option (ℕ × ℕ)) (readers : Readers) (at sent took : ℕ) (value : W) (turn : ℕ) → InEachLane m (λ v. IsValidStimulus v.stimulus) before → AreReaders (length port_image.outs) port_image.outs readers
        → at ≡ 0 → sent ≡ 0 → took ≡ 0 → before.turn ≡ turn → before.received ≡ 0 → 1 ≤ turn → turn ≤ until + 1 → HasEntered before view entry.items (nat_le turn until) → InEachLaneOf m value (λ v x. IsLastValue v x) view
        → IsKept m (record { view = view; rows = rows; port_image = port_image; slots = slots; readers = readers; stops = stops; at = at; sent = sent; took = took; value = value; turn = turn; until = until })
    unfolding counts
    entered_kept view rows readers at sent took value turn valid readers_are at_is sent_is took_is turn_is received first last entered value_is =
        subst (λ v. IsKept m (record { view = v; rows = rows; port_image = port_image; slots = slots; readers = readers; stops = stops; at = at; sent = sent; took = took; value = value; turn = turn; until = until })) (sym entered) (record {
          image = good;
          valid = valid;
          port_image = is;
          few = few;
          first = first;
          last = last;
          slots = slots_are;
          stops = stops_are;
          readers = readers_are;
          come = rw (at_is, sent_is, took_is) refl;
          at = omega (arith, at_is, sent_is, took_is);
          sent = omega (arith, sent_is);
          took = omega (arith, took_is);
          inner =
              ap (λ t. record before { turn = t; begun = nat_le turn until; executed = if nat_le turn until then entry.items else 0 }) turn_is
              ∙ ap (λ n. record before { turn = turn; begun = nat_le turn until; executed = if nat_le turn until then entry.items else 0; received = n }) (received ∙ sym took_is);
          executed = λ early s at_s.
              let one : entry ≡ s = one_there stops 0 at entry s (sym at_is) there at_s in
              ap {A = Bool} {B = ℕ} (λ t. if t then entry.items else 0) (le-leb turn until early) ∙ ap (λ (x : Stop). x.items) one;
          rests = λ late. ap {A = Bool} {B = ℕ} (λ t. if t then entry.items else 0) (le_late turn until late);
          unmoved = λ late. at_is;
          value = subst (InEachLaneOf m value (λ v x. IsLastValue v x)) entered value_is;
        })

-- the turn after the one that was told
module _ {W P F S : Type 0} (m : word.Ghosts W P F S) {a : Parts W S} (kept : IsKept m a) (stops : List Stop) (same : stops ≡ a.stops) (ended : View S) (is : ended ≡ after_end a.view) where
  pub told_enters : (items : List ℕ) → items ≡ a.slots → InEachLane m (λ v. CanEnter v items (get_or stops 0 no_stop).items (nat_le (a.turn + 1) a.until)) ended
  told_enters items items_are =
      subst (InEachLane m (λ v. CanEnter v items (get_or stops 0 no_stop).items (nat_le (a.turn + 1) a.until))) (sym is)
      (may_enter m (after_end a.view) kept.image a.port_image kept.port_image a.slots a.stops kept.slots kept.stops stops same a.until kept.few items (nat_le (a.turn + 1) a.until) items_are refl refl
      (λ runs. let low = leb-true (a.turn + 1) a.until runs in let turn = ap (λ (v : View S). v.turn) kept.inner in omega (arith, low, turn)))

  pub told_kept : (view : View S) (rows : Option (ℕ × ℕ)) (value : W) → a.turn ≤ a.until → HasEntered ended view (get_or stops 0 no_stop).items (nat_le (a.turn + 1) a.until) → InEachLaneOf m value (λ v x. IsLastValue v x) view
      → IsKept m (record a { view = view; rows = rows; at = 0; sent = 0; took = 0; value = value; turn = a.turn + 1 })
  told_kept view rows value early entered last =
      entered_kept m (after_end a.view) kept.image a.port_image kept.port_image a.slots a.stops kept.slots kept.stops stops same a.until kept.few view rows a.readers 0 0 0 value (a.turn + 1) kept.valid kept.readers refl refl refl
      (ap (λ (v : View S). v.turn + 1) kept.inner) refl (omega arith) (omega (arith, early))
      (entered ∙ ap (λ (v : View S). record v { begun = nat_le (a.turn + 1) a.until; executed = if nat_le (a.turn + 1) a.until then (get_or stops 0 no_stop).items else 0 }) is) last

-- the turn in which a walk that rested goes on
module _ {W P F S : Type 0} (m : word.Ghosts W P F S) {a : Parts W S} (kept : IsKept m a) (stops : List Stop) (same : stops ≡ a.stops) (until : ℕ) (few : InEachLane m (λ v. until ≤ last_turn v) a.view)
    (rests : a.turn ≡ a.until + 1) (more : a.turn ≤ until) (before : View S) (is : before ≡ a.view) where
  late : a.until < a.turn
  late = omega (arith, rests)

  pub gone_enters : (items : List ℕ) → items ≡ a.slots → InEachLane m (λ v. CanEnter v items (get_or stops 0 no_stop).items true) before
  gone_enters items items_are =
      subst (InEachLane m (λ v. CanEnter v items (get_or stops 0 no_stop).items true)) (sym is)
      (may_enter m a.view kept.image a.port_image kept.port_image a.slots a.stops kept.slots kept.stops stops same until few items true items_are
      (ap (λ (v : View S). v.begun) kept.inner ∙ le_late a.turn a.until late) (kept.rests late)
      (λ runs. let turn = ap (λ (v : View S). v.turn) kept.inner in omega (arith, more, turn)))

  pub gone_kept : (view : View S) (rows : Option (ℕ × ℕ)) (value : W) → HasEntered before view (get_or stops 0 no_stop).items true → InEachLaneOf m value (λ v x. IsLastValue v x) view
      → IsKept m (record a { view = view; rows = rows; value = value; until = until })
  gone_kept view rows value entered last =
      entered_kept m a.view kept.image a.port_image kept.port_image a.slots a.stops kept.slots kept.stops stops same until few view rows a.readers a.at a.sent a.took value a.turn kept.valid kept.readers
      (kept.unmoved late) (omega (arith, kept.unmoved late, kept.at)) (omega (arith, kept.unmoved late, kept.at))
      (ap (λ (v : View S). v.turn) kept.inner) (ap (λ (v : View S). v.received) kept.inner ∙ omega (arith, kept.unmoved late, kept.at)) kept.first (omega (arith, more))
      (entered ∙ (ap (λ (v : View S). record v { begun = true; executed = (get_or stops 0 no_stop).items }) is
      ∙ ap {A = Bool} (λ runs. record a.view { begun = runs; executed = if runs then (get_or stops 0 no_stop).items else 0 }) (sym (le-leb a.turn until more)))) last
