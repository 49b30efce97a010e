-- The core by its core_ports: what each of them is, where there is room for its words, and what the whole is with
-- one core_port in another's place, as after each of its four events.
use Rattle.std.proofs.Common.{List, Some, ap, append-nil, arith, get_or-set_other, get_or-set_same, inl, inr, length, length-set, map, mod-lt, mul-le-mul, refl, slice_get, slice_index_or, slice_set, subst, sym, take, take_all, ℕ, ◌*◌, ◌++◌, ◌+◌, ◌<◌, ◌^◌, ◌∙◌, ◌≡◌, ◌≤◌, [], ap₂, ◌%◌, ◌-◌, ◌/◌, ◌∷◌}
use Rattle.std.proofs.lemmas.{Bool.cases_eq, List.drop_all, List.length-map, List.map-set}
use Rattle.std.proofs.lemmas.Option.{get_or_from_slice_get, slice_get-get_or, slice_get_within}
use Rattle.std.specs.List.{refill}
use Rattle.list_laws.proofs.Members.{member_at}
use Rattle.net_defs.specs.{Time.cycle_count, Time.turn_count, Valid.IsValidStimulus, declared.stimulus.Stimulus.Stimulus}
use Rattle.image_defs.specs.{Frames.image_value, Places.IsPort, Steps.timing_of, WellFormed.IsWellFormed, declared.image.Image.Image}
use Rattle.image_defs.specs.declared.image.{LinkIn.LinkIn, LinkOut.LinkOut, PortImage.PortImage}
use Rattle.event_defs.proofs.lemmas.RowLemmas.{number_within, place_within, send_within, set_updated, word_at, word_set}
use Rattle.event_defs.proofs.lemmas.{KeptLemmas.step_sound, KeptLemmas.read_older, KeptLemmas.read_value, SlotLemmas.to_map, NextLemmas.puts_one}
use Rattle.event_defs.proofs.lemmas.{PaceLemmas.reader_in, PaceLemmas.same_port, WordLemmas.decoded}
use Rattle.event_defs.specs.Next.{EndsNext, IsNext, ReceivesNext, SendsNext, AsksNext, PutsNext, TakesNext}
use Rattle.event_defs.specs.Places.{IsSend, start, after_ask, after_put, after_take, after_tell}
use Rattle.event_defs.specs.Row.{send_count, send_number, word_in, word_place}
use Rattle.event_defs.specs.Steps.{CoreState, IsStep, updated, Reads, written}
use Rattle.event_defs.specs.{Counts.moves, declared.place.Action.Action, declared.place.CoreStep.CoreStep, declared.place.Place.Place, Sources.IsSource}
use Rattle.event_defs.specs.declared.place.CoreStep.TheVariants.{Moved, NotYet}
use Rattle.port_walk.specs.Placed.{IsEnding, IsNextOf, IsReceiving, IsSending, PlacedPort, CanPut, CanTake, CanTakeValue, in_next_turn}
use Rattle.order_run.specs.code.CorePorts.{AtCorePort, HasPutRoom, HasTakeRoom, IsNextIn, HasWritten, IsWordRead, core_port_asked, core_port_put, core_port_taken, core_port_told}
use Rattle.order_run.specs.{Core.Applies, Core.CoreView, Core.state_of, code.Core.IsUpcoming, Kept.IsKept, Kept.IsCorePort, Kept.view_of, CorePorts.place_in}
use Rattle.order_run.specs.declared.{core_run.Core.TheInside.Inside, core_ports.CorePort.CorePort}
use Rattle.logic_four.specs.{Values.code_of, Values.value_of, declared.V4.V4}
use Rattle.event_defs.specs.declared.place.Action.TheVariants as action
use Rattle.event_defs.specs.declared.place.Event.TheVariants as event

-- a list whose loan ends with one member in another's place
pub replaced : {X : Type 0} (xs now new : List X) (p : ℕ) (x : X) → now ≡ xs → new ≡ slice_set now p x → refill (length xs) xs new ≡ slice_set xs p x
replaced xs now new p x same is =
    let whole : new ≡ slice_set xs p x = is ∙ ap (λ ys. slice_set ys p x) same in
    let long : length new ≡ length xs = ap length whole ∙ length-set xs p x in
    ap (λ rest. take (length xs) (new ++ rest)) (drop_all (length new) xs (omega arith))
    ∙ (ap (λ list. take (length xs) list) (append-nil new) ∙ (take_all (length xs) new (omega arith) ∙ whole))

-- a member of a list with one set
pub set_member : {X : Type 0} (P : ℕ → X → Type 0) (xs : List X) (p : ℕ) (x : X) → P p x → ((q : ℕ) (y : X) → slice_get xs q ≡ Some y → P q y) → (q : ℕ) (y : X) → slice_get (slice_set xs p x) q ≡ Some y → P q y
set_member P xs p x new old q y at =
    let low = slice_get_within (slice_set xs p x) q y at in
    let long = length-set xs p x in
    let read = get_or_from_slice_get (slice_set xs p x) q y y at in
    elim (cases_eq q p) [
      | inl same ↦
          let is : x ≡ y = sym (get_or-set_same xs p x y (omega arith)) ∙ (ap (λ k. slice_index_or (slice_set xs p x) k y) (sym same) ∙ read) in
          subst (λ k. P k y) (sym same) (subst (P p) is new)
      | inr other ↦
          let is : slice_index_or xs q y ≡ y = sym (get_or-set_other xs p q x y other) ∙ read in
          old q y (slice_get-get_or xs q y (omega arith) ∙ ap Some is)
    ]

-- turns are few
pub few_turns : (image : Image) (stimulus : Stimulus) → IsWellFormed image → IsValidStimulus stimulus → turn_count (timing_of image) stimulus < 2 ^ 59
few_turns image stimulus fits valid =
    let most : image.units * cycle_count stimulus ≤ 4096 * 1000000 = mul-le-mul fits.units.1 valid.cycles in
    omega arith

-- a core that is seen so, and a port of it
module _ (a : Inside) (view : CoreView) (seen : view_of a ≡ view) (p : ℕ) where
  pub inside_of : p < length view.image.ports → p < length a.image.now.ports
  inside_of = subst (λ (v : CoreView). p < length v.image.ports) (sym seen)

  pub upcoming_of : (action : Action) → IsUpcoming view p action → IsUpcoming (view_of a) p action
  upcoming_of action = subst (λ (v : CoreView). IsUpcoming v p action) (sym seen)

module _ (a : Inside) (kept : IsKept a) (p : ℕ) (within : p < length a.image.now.ports) where
  abbrev image : Image
  image = a.image.now

  abbrev stimulus : Stimulus
  stimulus = a.stim.now

  abbrev until : ℕ
  until = turn_count (timing_of a.image.now) a.stim.now

  abbrev state : CoreState
  state = state_of (view_of a)

  pub port_there : (port : PortImage) × IsPort image p port
  port_there = member_at image.ports p within

  pub core_port_there : (core_port : CorePort) × (slice_get a.core_ports p ≡ Some core_port)
  core_port_there = member_at a.core_ports p (let long = kept.core_ports in omega arith)

  abbrev core_port : CorePort
  core_port = core_port_there.0

  pub is_core_port : IsCorePort image stimulus a.banks p core_port
  is_core_port = kept.each p core_port core_port_there.1

  -- any core_port of this number is this one
  pub same_core_port : (other : CorePort) (core_ports : List CorePort) → core_ports ≡ a.core_ports → slice_get core_ports p ≡ Some other → core_port ≡ other
  same_core_port other core_ports same at = let twice : Some core_port ≡ Some other = sym core_port_there.1 ∙ (ap (λ xs. slice_get xs p) (sym same) ∙ at) in cc

  -- and stands there in any list that is the same
  pub core_port_in : (core_ports : List CorePort) → core_ports ≡ a.core_ports → slice_get core_ports p ≡ Some core_port
  core_port_in core_ports same = ap (λ xs. slice_get xs p) same ∙ core_port_there.1

  module _ (core_ports : List CorePort) (same : core_ports ≡ a.core_ports) where
    pub core_port_low : p < length core_ports
    core_port_low = subst (λ xs. p < length xs) (sym same) (let long = kept.core_ports in omega arith)

    -- what holds of the core_port holds of any of this number
    pub at_core_port : (Claim : CorePort → Type 0) → Claim core_port → AtCorePort core_ports p Claim
    at_core_port Claim holds other at = subst Claim (same_core_port other core_ports same at) holds

  pub here : state.place p ≡ place_in core_port
  here = get_or_from_slice_get (map place_in a.core_ports) p (place_in core_port) (start (length image.ports)) (to_map place_in a.core_ports p core_port core_port_there.1)

  pub here_turn : (state.place p).turn ≡ core_port.port.turn
  here_turn = ap (λ (x : Place). x.turn) here

  -- ---- what is next

  pub next_seen : (action : Action) → IsNextIn core_port a.banks action → IsUpcoming (view_of a) p action
  next_seen action next = record {
    each = λ port is. subst (λ (x : Place). IsNext port x a.banks until (image_value image stimulus x.turn p) action) (sym here)
        ((subst (λ (w : PlacedPort). IsNextOf w core_port.known a.banks action) is_core_port.port next.next).each port is);
  }

  pub known_wide : length core_port.known ≡ length core_port.port.image.ports
  known_wide = ap (λ (x : Place). length x.known) (sym here) ∙ (kept.sound.paced.wide p within ∙ ap (λ (w : PlacedPort). length w.image.ports) (sym is_core_port.port))

  pub sending_here : (port : PortImage) → IsPort image p port → (i : ℕ) (link : LinkOut) → (state.place p).turn ≤ until → SendsNext port (state.place p).puts (state.place p).takes i link → IsSending core_port.port i link
  sending_here port is i link early next =
      let there : SendsNext port core_port.port.puts core_port.port.takes i link = subst (λ (x : Place). SendsNext port x.puts x.takes i link) here next in
      let soon : core_port.port.turn ≤ until = subst (λ (x : Place). x.turn ≤ until) here early in
      subst (λ (w : PlacedPort). IsSending w i link) (sym is_core_port.port) (record { early = soon; port_image = port; is = is; next = there })

  pub receiving_here : (port : PortImage) → IsPort image p port → (j : ℕ) (link : LinkIn) → (state.place p).turn ≤ until → ReceivesNext port (state.place p).puts (state.place p).takes j link → IsReceiving core_port.port j link
  receiving_here port is j link early next =
      let there : ReceivesNext port core_port.port.puts core_port.port.takes j link = subst (λ (x : Place). ReceivesNext port x.puts x.takes j link) here next in
      let soon : core_port.port.turn ≤ until = subst (λ (x : Place). x.turn ≤ until) here early in
      subst (λ (w : PlacedPort). IsReceiving w j link) (sym is_core_port.port) (record { early = soon; port_image = port; is = is; next = there })

  pub ending_here : (port : PortImage) → IsPort image p port → (state.place p).turn ≤ until → EndsNext port (state.place p).puts (state.place p).takes → IsEnding core_port.port
  ending_here port is early next =
      let there : EndsNext port core_port.port.puts core_port.port.takes = subst (λ (x : Place). EndsNext port x.puts x.takes) here next in
      let soon : core_port.port.turn ≤ until = subst (λ (x : Place). x.turn ≤ until) here early in
      subst (λ (w : PlacedPort). IsEnding w) (sym is_core_port.port) (record { early = soon; port_image = port; is = is; next = there })

  -- ---- words

  pub bank_low : core_port.bank < a.banks
  bank_low = subst (λ b. b < a.banks) (sym is_core_port.bank) (mod-lt core_port.port.turn kept.some)

  -- there is a word for each bank of a send
  pub word_low : (q i b : ℕ) (link : LinkOut) → IsSend image q i link → b < a.banks → word_place a.banks (send_number image q i) b < length a.words
  word_low q i b link send b_in =
      let low = number_within image q i (slice_get_within image.ports q send.port send.is) (send_within image q i link send) in
      let place = place_within a.banks (send_number image q i) b (send_count image) low b_in in
      let long = kept.words in
      omega arith

  pub put_room : HasPutRoom core_port a.banks (length a.words)
  put_room = record {
    each = λ i link sending.
        let s : IsSending (record core_port.port { image = image; stimulus = stimulus; port = p; first_row = 0; until = until }) i link = subst (λ (w : PlacedPort). IsSending w i link) is_core_port.port sending in
        subst (λ n. word_place a.banks (n + i) core_port.bank < length a.words) (sym is_core_port.first)
        (word_low p i core_port.bank link (record { port = s.port_image; is = s.is; link_is = s.next.is }) bank_low);
  }

  -- the source of a receipt
  pub source_of : (port : PortImage) → IsPort image p port → (j n : ℕ) (link : LinkIn) → slice_get port.ins j ≡ Some link → slice_get core_port.sources j ≡ Some n → IsSource image link n
  source_of port is j n link at source =
      let found = (is_core_port.sources port is).each j link (slice_get_within port.ins j link at) at in
      let twice : Some found.0 ≡ Some n = sym found.1 ∙ source in
      let same : found.0 ≡ n = cc in
      subst (IsSource image link) same found.2

  pub take_room : HasTakeRoom core_port a.banks (length a.words)
  take_room = record {
    there = λ j link receiving.
        let r : IsReceiving (record core_port.port { image = image; stimulus = stimulus; port = p; first_row = 0; until = until }) j link = subst (λ (w : PlacedPort). IsReceiving w j link) is_core_port.port receiving in
        let low = slice_get_within r.port_image.ins j link r.next.is in
        let long = (is_core_port.sources r.port_image r.is).long in
        omega arith;
    each = λ j n link receiving source.
        let r : IsReceiving (record core_port.port { image = image; stimulus = stimulus; port = p; first_row = 0; until = until }) j link = subst (λ (w : PlacedPort). IsReceiving w j link) is_core_port.port receiving in
        let from = source_of r.port_image r.is j n link r.next.is source in
        subst (λ m. word_place a.banks m core_port.bank < length a.words) (sym from.number) (word_low link.sender from.i core_port.bank from.sent from.send bank_low);
  }

  -- ---- the whole with another core_port

  module _ (other : CorePort) (finished words : List ℕ) where
    abbrev after : Inside
    after = record a { core_ports = slice_set a.core_ports p other; finished = finished; words = words }

    -- its state
    pub state_after : state_of (view_of after) ≡ record state {
      place = updated state.place p (place_in other);
      finished = λ q. slice_index_or finished q 0;
      word = word_in image a.banks words;
    }
    state_after =
        let long : p < length (map place_in a.core_ports) = (let e = length-map a.core_ports place_in in let s = kept.core_ports in omega arith) in
        let places : ◌≡◌ {A = ℕ → Place} (λ q. slice_index_or (map place_in (slice_set a.core_ports p other)) q (start (length image.ports))) (updated state.place p (place_in other)) =
        ap {A = List Place} {B = ℕ → Place} (λ (xs : List Place). λ q. slice_index_or xs q (start (length image.ports))) (map-set place_in a.core_ports p other)
        ∙ set_updated (map place_in a.core_ports) p (place_in other) (start (length image.ports)) long in
        ap {A = ℕ → Place} {B = CoreState} (λ f. record { place = f; finished = λ q. slice_index_or finished q 0; word = word_in image a.banks words }) places

    -- it is kept, and this was a step
    pub stepped : (answer : CoreStep) → (moves answer ≡ 0 → ⊥) → IsCorePort image stimulus a.banks p other → length finished ≡ length image.ports → length words ≡ send_count image * a.banks
        → ((port : PortImage) → IsPort image p port → IsStep image stimulus a.banks until p port state answer (state_of (view_of after)))
        → IsKept after × Applies (view_of a) p answer (view_of after)
    stepped answer moved is_core_port_here finished_long words_long step = (
      record {
        image = kept.image;
        stimulus = kept.stimulus;
        some = kept.some;
        until = kept.until;
        core_ports = length-set a.core_ports p other ∙ kept.core_ports;
        finished = finished_long;
        words = words_long;
        each = set_member (IsCorePort image stimulus a.banks) a.core_ports p other is_core_port_here kept.each;
        sound = step_sound image stimulus a.banks until kept.image kept.some state kept.sound p port_there.0 port_there.1 answer (state_of (view_of after)) (step port_there.0 port_there.1);
      },
      record { same = refl; step = step; still = λ none. absurd (moved none) },
    )

  turn_is : (turn : ℕ) → turn ≡ core_port.port.turn → turn ≡ (state.place p).turn
  turn_is turn is = is ∙ sym here_turn

  -- ---- Ask

  pub reader_within : (r : ℕ) → IsUpcoming (view_of a) p (action.Ask r) → r < length image.ports
  reader_within r upcoming =
      let port = port_there in
      let next : AsksNext port.0 (state.place p) a.banks r = (upcoming.each port.0 port.1).1 in
      reader_in image kept.image p next.i r next.link (record { port = port.0; is = port.1; link_is = next.sends.is }) next.reads

  pub known_within : (r : ℕ) → IsUpcoming (view_of a) p (action.Ask r) → r < length core_port.known
  known_within r upcoming =
      let low = reader_within r upcoming in
      let wide = known_wide in
      let same = ap (λ (w : PlacedPort). length w.image.ports) is_core_port.port in
      omega arith

  pub ask_waits : (r turn : ℕ) → IsUpcoming (view_of a) p (action.Ask r) → turn ≡ core_port.port.turn → slice_index_or a.finished r 0 < turn - a.banks → Applies (view_of a) p NotYet (view_of a)
  ask_waits r turn upcoming is less = record {
    same = refl;
    still = λ none. refl;
    step = λ port is_port.
        let next = upcoming.each port is_port in
        let e = turn_is turn is in
        (next.0, inl (r, record { next = next.1; less = omega arith }), refl);
  }

  pub ask_moves : (r turn : ℕ) → IsUpcoming (view_of a) p (action.Ask r) → turn ≡ core_port.port.turn → turn - a.banks ≤ slice_index_or a.finished r 0
      → IsKept (record a { core_ports = slice_set a.core_ports p (core_port_asked core_port r (slice_index_or a.finished r 0)) })
      × Applies (view_of a) p (Moved (event.Ask r)) (view_of (record a { core_ports = slice_set a.core_ports p (core_port_asked core_port r (slice_index_or a.finished r 0)) }))
  ask_moves r turn upcoming is more =
      let n : ℕ = slice_index_or a.finished r 0 in
      let s = is_core_port in
      stepped (core_port_asked core_port r (slice_index_or a.finished r 0)) a.finished a.words (Moved (event.Ask r)) (λ none. absurd (omega arith))
      (record { port = s.port; bank = s.bank; first = s.first; sources = s.sources })
      kept.finished kept.words
      (λ port is_port.
      let next = upcoming.each port is_port in
      let e = turn_is turn is in (
        next.0,
        record {
          next = next.1;
          moves = omega arith;
          is = state_after (core_port_asked core_port r (slice_index_or a.finished r 0)) a.finished a.words
              ∙ ap {A = Place} {B = CoreState} (λ (x : Place). record state { place = updated state.place p (after_ask x r (slice_index_or a.finished r 0)) }) (sym here);
        },
      ))

  -- ---- Put

  -- turns are few enough for a word
  pub early_turn : core_port.port.turn < 2 ^ 60
  early_turn =
      let port = port_there in
      let ends : (state.place p).turn ≤ until + 1 = (kept.sound.paced.places p port.0 port.1).ends in
      let few = few_turns image stimulus kept.image kept.stimulus in
      let same = here_turn in
      omega arith

  pub can_put : (slot : ℕ) (v : V4) → IsUpcoming (view_of a) p (action.Put slot v) → CanPut core_port.port
  can_put slot v upcoming =
      let port = port_there in
      let next = upcoming.each port.0 port.1 in
      let put : PutsNext port.0 (state.place p) a.banks slot = next.1 in
      record { i = put.i; link = put.link; sending = sending_here port.0 port.1 put.i put.link next.0 put.sends }

  pub put_moves : (slot : ℕ) (v : V4) (core_ports : List CorePort) (words : List ℕ) → IsUpcoming (view_of a) p (action.Put slot v)
      → HasWritten core_port a.banks v a.words words
      → ((i : ℕ) (link : LinkOut) → IsSending core_port.port i link → core_ports ≡ slice_set a.core_ports p (core_port_put core_port link.slot))
      → IsKept (record a { core_ports = core_ports; words = words }) × Applies (view_of a) p (Moved (event.Put slot)) (view_of (record a { core_ports = core_ports; words = words }))
  put_moves slot v core_ports words upcoming wrote replaces =
      let port = port_there in
      let next = upcoming.each port.0 port.1 in
      let put : PutsNext port.0 (state.place p) a.banks slot = next.1 in
      let sending = sending_here port.0 port.1 put.i put.link next.0 put.sends in
      let core_ports_are : core_ports ≡ slice_set a.core_ports p (core_port_put core_port slot) = replaces put.i put.link sending ∙ ap (λ s. slice_set a.core_ports p (core_port_put core_port s)) put.slot_is in
      let words_are : words ≡ slice_set a.words (word_place a.banks (send_number image p put.i) ((state.place p).turn % a.banks)) (4 * (state.place p).turn + code_of (image_value image stimulus (state.place p).turn p slot)) = words_put put.i put.link sending slot v words wrote next.2 in
      subst (λ (xs : List CorePort). IsKept (record a { core_ports = xs; words = words }) × Applies (view_of a) p (Moved (event.Put slot)) (view_of (record a { core_ports = xs; words = words }))) (sym core_ports_are)
      (subst (λ (ws : List ℕ). IsKept (record a { core_ports = slice_set a.core_ports p (core_port_put core_port slot); words = ws }) × Applies (view_of a) p (Moved (event.Put slot)) (view_of (record a { core_ports = slice_set a.core_ports p (core_port_put core_port slot); words = ws }))) (sym words_are)
      (stepped (core_port_put core_port slot) a.finished (slice_set a.words (word_place a.banks (send_number image p put.i) ((state.place p).turn % a.banks)) (4 * (state.place p).turn + code_of (image_value image stimulus (state.place p).turn p slot))) (Moved (event.Put slot)) (λ none. absurd (omega arith))
      (put_core_port slot)
      kept.finished
      (length-set a.words (word_place a.banks (send_number image p put.i) ((state.place p).turn % a.banks)) (4 * (state.place p).turn + code_of (image_value image stimulus (state.place p).turn p slot)) ∙ kept.words)
      (λ q is_q.
      let next_q = upcoming.each q is_q in
      let put_q : PutsNext q (state.place p) a.banks slot = next_q.1 in
      let same_i : put.i ≡ put_q.i = (puts_one image kept.image p q is_q (state.place p) a.banks slot slot (subst (λ (s : PortImage). PutsNext s (state.place p) a.banks slot) (same_port image p port.0 q port.1 is_q) put) put_q).0 in (
        next_q.0,
        record {
          next = put_q;
          is = put_state put.i put.link (record { port = port.0; is = port.1; link_is = put.sends.is }) slot ∙ ap {A = ℕ} {B = CoreState} (λ i. record state { place = updated state.place p (after_put (state.place p) slot); word = written state.word p i ((state.place p).turn % a.banks) (4 * (state.place p).turn + code_of (image_value image stimulus (state.place p).turn p slot)) }) same_i;
        },
      ))))
    where
      put_core_port : (slot : ℕ) → IsCorePort image stimulus a.banks p (core_port_put core_port slot)
      put_core_port slot = let s = is_core_port in record { port = ap {A = PlacedPort} {B = PlacedPort} (λ (w : PlacedPort). record w { puts = core_port.port.puts ++ slot ∷ [] }) s.port; bank = s.bank; first = s.first; sources = s.sources }

      words_put : (i : ℕ) (link : LinkOut) → IsSending core_port.port i link → (slot : ℕ) (v : V4) (words : List ℕ) → HasWritten core_port a.banks v a.words words → v ≡ image_value image stimulus (state.place p).turn p slot
          → words ≡ slice_set a.words (word_place a.banks (send_number image p i) ((state.place p).turn % a.banks)) (4 * (state.place p).turn + code_of (image_value image stimulus (state.place p).turn p slot))
      words_put i link sending slot v words wrote value =
          let s = is_core_port in
          wrote.each i link sending
          ∙ ap₂ (λ n x. slice_set a.words n x)
          (ap₂ (λ first b. word_place a.banks (first + i) b) s.first (s.bank ∙ ap (λ t. t % a.banks) (sym here_turn)))
          (ap₂ (λ t code. 4 * t + code) (sym here_turn) (ap code_of value))

      put_state : (i : ℕ) (link : LinkOut) → IsSend image p i link → (slot : ℕ)
          → state_of (view_of (record a { core_ports = slice_set a.core_ports p (core_port_put core_port slot); words = slice_set a.words (word_place a.banks (send_number image p i) ((state.place p).turn % a.banks)) (4 * (state.place p).turn + code_of (image_value image stimulus (state.place p).turn p slot)) }))
          ≡ record state { place = updated state.place p (after_put (state.place p) slot); word = written state.word p i ((state.place p).turn % a.banks) (4 * (state.place p).turn + code_of (image_value image stimulus (state.place p).turn p slot)) }
      put_state i link send slot =
          state_after (core_port_put core_port slot) a.finished (slice_set a.words (word_place a.banks (send_number image p i) ((state.place p).turn % a.banks)) (4 * (state.place p).turn + code_of (image_value image stimulus (state.place p).turn p slot)))
          ∙ (ap {A = Place} {B = CoreState} (λ (x : Place). record state { place = updated state.place p (after_put x slot); word = word_in image a.banks (slice_set a.words (word_place a.banks (send_number image p i) ((state.place p).turn % a.banks)) (4 * (state.place p).turn + code_of (image_value image stimulus (state.place p).turn p slot))) }) (sym here)
          ∙ ap {A = ℕ → ℕ → ℕ → ℕ} {B = CoreState} (λ w. record state { place = updated state.place p (after_put (state.place p) slot); word = w })
          (word_set image a.banks a.words p i ((state.place p).turn % a.banks) (4 * (state.place p).turn + code_of (image_value image stimulus (state.place p).turn p slot)) within (send_within image p i link send) (mod-lt (state.place p).turn kept.some) kept.words))

  -- ---- Take

  pub can_take : (slot : ℕ) → IsUpcoming (view_of a) p (action.Take slot) → CanTake core_port.port
  can_take slot upcoming =
      let port = port_there in
      let next = upcoming.each port.0 port.1 in
      let take : TakesNext port.0 (state.place p) slot = next.1 in
      record { j = take.j; link = take.link; receiving = receiving_here port.0 port.1 take.j take.link next.0 take.receives }

  -- what it reads
  pub reads_word : (slot x : ℕ) → IsUpcoming (view_of a) p (action.Take slot) → IsWordRead core_port a.banks a.words x → (port : PortImage) → IsPort image p port → Reads image a.banks p port state slot x
  reads_word slot x upcoming read port is =
      let next = upcoming.each port is in
      let take : TakesNext port (state.place p) slot = next.1 in
      let receiving = receiving_here port is take.j take.link next.0 take.receives in
      let found = (is_core_port.sources port is).each take.j take.link (slice_get_within port.ins take.j take.link take.receives.is) take.receives.is in
      let from : IsSource image take.link found.0 = found.2 in
      let word : x ≡ slice_index_or a.words (word_place a.banks found.0 core_port.bank) 0 = read.each take.j found.0 take.link receiving found.1 in
      let bank : core_port.bank ≡ (state.place p).turn % a.banks = is_core_port.bank ∙ ap (λ t. t % a.banks) (sym here_turn) in
      record {
        j = take.j;
        link = take.link;
        slot_is = take.slot_is;
        receives = take.receives;
        i = from.i;
        sent = from.sent;
        send = from.send;
        same_slot = from.same_slot ∙ take.slot_is;
        word = word ∙ (ap₂ (λ n b. slice_index_or a.words (word_place a.banks n b) 0) from.number bank
            ∙ sym (word_at image a.banks a.words take.link.sender from.i ((state.place p).turn % a.banks) (send_within image take.link.sender from.i from.sent from.send) (mod-lt (state.place p).turn kept.some)));
      }

  pub take_waits : (slot x turn : ℕ) → IsUpcoming (view_of a) p (action.Take slot) → IsWordRead core_port a.banks a.words x → turn ≡ core_port.port.turn → (x / 4 ≡ turn → ⊥) → Applies (view_of a) p NotYet (view_of a)
  take_waits slot x turn upcoming read is other = record {
    same = refl;
    still = λ none. refl;
    step = λ port is_port.
        let next = upcoming.each port is_port in
        let reads = reads_word slot x upcoming read port is_port in
        (next.0, inr (slot, record { x = x; reads = reads; less = read_older image stimulus a.banks until kept.image kept.some state kept.sound p port is_port slot x reads (λ e. other (e ∙ sym (turn_is turn is))) }), refl);
  }

  pub can_take_value : (slot x turn : ℕ) (v : V4) → IsUpcoming (view_of a) p (action.Take slot) → IsWordRead core_port a.banks a.words x → turn ≡ core_port.port.turn → x / 4 ≡ turn → v ≡ value_of (x % 4) → CanTakeValue core_port.port v
  can_take_value slot x turn v upcoming read is stamp value =
      let port = port_there in
      let next = upcoming.each port.0 port.1 in
      let reads : Reads image a.banks p port.0 state slot x = reads_word slot x upcoming read port.0 port.1 in
      let word = read_value image stimulus a.banks until kept.image kept.some state kept.sound p port.0 port.1 slot x reads (stamp ∙ turn_is turn is) in
      let found : v ≡ image_value image stimulus (state.place p).turn reads.link.sender slot = value ∙ decoded x (state.place p).turn (image_value image stimulus (state.place p).turn reads.link.sender slot) word in
      let here_value : v ≡ image_value image stimulus core_port.port.turn reads.link.sender reads.link.slot = found ∙ ap₂ (λ t s. image_value image stimulus t reads.link.sender s) here_turn (sym reads.slot_is) in
      record {
        j = reads.j;
        link = reads.link;
        receiving = receiving_here port.0 port.1 reads.j reads.link next.0 reads.receives;
        value = subst (λ (w : PlacedPort). v ≡ image_value w.image w.stimulus w.turn reads.link.sender reads.link.slot) (sym is_core_port.port) here_value;
      }

  pub take_moves : (slot x turn : ℕ) (core_ports : List CorePort) → IsUpcoming (view_of a) p (action.Take slot) → IsWordRead core_port a.banks a.words x → turn ≡ core_port.port.turn → x / 4 ≡ turn
      → ((j : ℕ) (link : LinkIn) → IsReceiving core_port.port j link → core_ports ≡ slice_set a.core_ports p (core_port_taken core_port link.slot))
      → IsKept (record a { core_ports = core_ports }) × Applies (view_of a) p (Moved (event.Take slot)) (view_of (record a { core_ports = core_ports }))
  take_moves slot x turn core_ports upcoming read is stamp replaces =
      let port = port_there in
      let next = upcoming.each port.0 port.1 in
      let take : TakesNext port.0 (state.place p) slot = next.1 in
      let receiving = receiving_here port.0 port.1 take.j take.link next.0 take.receives in
      let core_ports_are : core_ports ≡ slice_set a.core_ports p (core_port_taken core_port slot) = replaces take.j take.link receiving ∙ ap (λ s. slice_set a.core_ports p (core_port_taken core_port s)) take.slot_is in
      let s = is_core_port in
      subst (λ (xs : List CorePort). IsKept (record a { core_ports = xs }) × Applies (view_of a) p (Moved (event.Take slot)) (view_of (record a { core_ports = xs }))) (sym core_ports_are)
      (stepped (core_port_taken core_port slot) a.finished a.words (Moved (event.Take slot)) (λ none. absurd (omega arith))
      (record { port = ap {A = PlacedPort} {B = PlacedPort} (λ (w : PlacedPort). record w { takes = core_port.port.takes ++ slot ∷ [] }) s.port; bank = s.bank; first = s.first; sources = s.sources })
      kept.finished kept.words
      (λ q is_q.
      let next_q = upcoming.each q is_q in (
        next_q.0,
        record {
          x = x;
          reads = reads_word slot x upcoming read q is_q;
          moves = stamp ∙ turn_is turn is;
          is = state_after (core_port_taken core_port slot) a.finished a.words
              ∙ ap {A = Place} {B = CoreState} (λ (y : Place). record state { place = updated state.place p (after_take y slot) }) (sym here);
        },
      )))

  -- ---- Tell

  pub can_tell : IsUpcoming (view_of a) p action.Tell → IsEnding core_port.port
  can_tell upcoming =
      let port = port_there in
      let next = upcoming.each port.0 port.1 in
      ending_here port.0 port.1 next.0 next.1

  pub tell_moves : (turn : ℕ) → IsUpcoming (view_of a) p action.Tell → turn ≡ core_port.port.turn
      → IsKept (record a { core_ports = slice_set a.core_ports p (core_port_told core_port ((core_port.port.turn + 1) % a.banks)); finished = slice_set a.finished p turn })
      × Applies (view_of a) p (Moved event.Tell) (view_of (record a { core_ports = slice_set a.core_ports p (core_port_told core_port ((core_port.port.turn + 1) % a.banks)); finished = slice_set a.finished p turn }))
  tell_moves turn upcoming is =
      let s = is_core_port in
      stepped (core_port_told core_port ((core_port.port.turn + 1) % a.banks)) (slice_set a.finished p turn) a.words (Moved event.Tell) (λ none. absurd (omega arith))
      (record { port = ap in_next_turn s.port; bank = refl; first = s.first; sources = s.sources })
      (length-set a.finished p turn ∙ kept.finished) kept.words
      (λ port is_port.
      let next = upcoming.each port is_port in (
        next.0,
        record {
          next = next.1;
          is = state_after (core_port_told core_port ((core_port.port.turn + 1) % a.banks)) (slice_set a.finished p turn) a.words
              ∙ (ap {A = ℕ → ℕ} {B = CoreState} (λ f. record state { place = updated state.place p (after_tell (place_in core_port)); finished = f }) (set_updated a.finished p turn 0 (let long = kept.finished in omega arith))
              ∙ (ap {A = Place} {B = CoreState} (λ (x : Place). record state { place = updated state.place p (after_tell x); finished = updated state.finished p turn }) (sym here)
              ∙ ap {A = ℕ} {B = CoreState} (λ t. record state { place = updated state.place p (after_tell (state.place p)); finished = updated state.finished p t }) (turn_is turn is)));
        },
      ))
