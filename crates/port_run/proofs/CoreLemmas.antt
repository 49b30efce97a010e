-- Each step of a running port is the core's, by the number that it found.
use Rattle.std.proofs.Common.{ap, arith, inl, inr, length, mod-lt, refl, subst, sym, true, ℕ, ◌%◌, ◌*◌, ◌+◌, ◌<◌, ◌∙◌, ◌≡◌, ◌≤◌}
use Rattle.logic_four.specs.Values.{code_of}
use Rattle.image_defs.specs.{Frames.image_value, Places.IsPort, Places.Stands, declared.image.PortImage.PortImage}
use Rattle.event_defs.proofs.lemmas.{NextLemmas.one_next, PaceLemmas.same_port, SlotLemmas.updated_here, StampLemmas.written_here}
use Rattle.event_defs.specs.Next.{AsksNext, IsNext, PutsNext, ReceivesNext, SendsNext, TellsNext}
use Rattle.event_defs.specs.Places.{IsSend, after_ask, after_put, after_take, after_tell, known_of}
use Rattle.event_defs.specs.Steps.{CoreState, Moves, Reads, Waits, stamp_of, updated, written}
use Rattle.event_defs.specs.declared.place.Event.TheVariants.{Ask, Put, Take, Tell}
use Rattle.event_defs.specs.{Row.send_number, Row.word_place, declared.place.Action.Action, declared.place.Event.Event, declared.place.Place.Place}
use Rattle.event_defs.specs.declared.place.CoreStep.TheVariants.{NotYet, Done}
use Rattle.event_defs.specs.declared.place.Action.TheVariants as action
use Rattle.list_laws.proofs.Members.{member_at}
use Rattle.slot_words.proofs.StepLemmas.{same_places}
use Rattle.port_run.proofs.lemmas.NextLemmas.{asked_again, asked_in}
use Rattle.slot_words.specs.{Layout.progress_word, Layout.send_word, plain.Passes.IsFit, plain.Passes.PassView}
use Rattle.port_run.specs.Core.{IsCoreEvent, IsCoreStep, Shows, StandsIn, is_look}
use Rattle.port_run.specs.Steps.{AskWaits, HasAsked, HasTaken, IsEvent, IsWait, Looks, Makes, Puts, TakeWaits, Tells, value_there, word_now}
use Rattle.port_run.specs.Pairs.{HasMade}

module _ (old : PassView) (fit : IsFit old) (state : CoreState) (stands : StandsIn old state) where
  here : (P : Place → Type 0) → P old.place → P (state.place old.port)
  here P it = subst P (sym stands) it

  -- where the port stands after an event that makes this place
  placed : (f : Place → Place) (new : PassView) (after : CoreState) → after.place ≡ updated state.place old.port (f (state.place old.port)) → new.place ≡ f old.place → StandsIn (record old { place = new.place }) after
  placed f new after after_is new_is = ap (λ g. g old.port) after_is ∙ (updated_here state.place old.port (f (state.place old.port)) ∙ (ap f stands ∙ sym new_is))

  module _ (port_image : PortImage) (is : IsPort old.image old.port port_image) (turns : ℕ) (early : old.place.turn ≤ turns) (new : PassView) where
    event_by : (e : Event) (after : CoreState) → Moves old.image old.banks old.port port_image state old.feed e after → StandsIn new after → Shows old after new.last → IsCoreEvent turns old e new state
    event_by e after moves stands_there shows = record { after = after; step = record { port_image = port_image; is = is; step = (here (λ a. a.turn ≤ turns) early, moves) }; stands = stands_there; shows = shows }

    -- no progress word is one of a send
    progress_apart : (r p i b : ℕ) → r < length old.image.ports → progress_word r ≡ send_word old.image old.banks p i b → ⊥
    progress_apart r p i b inside same =
        let row : ℕ = word_place old.banks (send_number old.image p i) b in
        let at : r ≡ length old.image.ports + row = same in
        omega arith

    turn_is : (state.place old.port).turn ≡ old.place.turn
    turn_is = ap (λ (a : Place). a.turn) stands

    same_port_stands : new.port ≡ old.port → (after : CoreState) → StandsIn (record old { place = new.place }) after → StandsIn new after
    same_port_stands port_is after at = ap after.place port_is ∙ at

    -- what the state has in the word that was looked at
    finished_is : (reader : ℕ) → AsksNext port_image old.place old.banks reader → new.last.word ≡ progress_word reader → Shows old state new.last → state.finished reader ≡ new.last.number
    finished_is reader next word shows = shows.progress reader (asked_in old.image fit.runs.image_fits old.port port_image is old.place old.banks reader next) word

    word_is : (slot : ℕ) (place : Place) (looks : Looks port_image old new slot place) → Shows old state new.last → state.word looks.next.link.sender looks.i ((state.place old.port).turn % old.banks) ≡ new.last.number
    word_is slot place looks shows =
        ap (λ (a : Place). state.word looks.next.link.sender looks.i (a.turn % old.banks)) stands
        ∙ shows.sent looks.next.link.sender looks.i (old.place.turn % old.banks) looks.source.sent looks.source.send (mod-lt old.place.turn fit.runs.some) (ap (λ (x : PassView). x.last.word) looks.is)

    reads : (slot : ℕ) (place : Place) (looks : Looks port_image old new slot place) → Reads old.image old.banks old.port port_image state slot (state.word looks.next.link.sender looks.i ((state.place old.port).turn % old.banks))
    reads slot place looks = record {
      j = looks.next.j;
      link = looks.next.link;
      slot_is = looks.next.slot_is;
      receives = here (λ a. ReceivesNext port_image a.puts a.takes looks.next.j looks.next.link) looks.next.receives;
      i = looks.i;
      sent = looks.source.sent;
      send = looks.source.send;
      same_slot = looks.source.same_slot ∙ looks.next.slot_is;
      word = refl;
    }

    asks_event : (reader : ℕ) → HasAsked port_image old new reader → Shows old state new.last → IsCoreEvent turns old (Ask reader) new state
    asks_event reader has shows =
        let found = finished_is reader has.asks.next (ap (λ (x : PassView). x.last.word) has.asks.is) shows in
        let after : CoreState = record state { place = updated state.place old.port (after_ask (state.place old.port) reader (state.finished reader)) } in
        event_by (Ask reader) after (record {
          next = here (λ a. AsksNext port_image a old.banks reader) has.asks.next;
          moves = here (λ a. a.turn ≤ state.finished reader + old.banks) (subst (λ n. old.place.turn ≤ n + old.banks) (sym found) has.enough);
          is = refl;
        }) (same_port_stands (ap (λ (x : PassView). x.port) has.asks.is) after
        (placed (λ a. after_ask a reader (state.finished reader)) new after refl (ap (λ (x : PassView). x.place) has.asks.is ∙ ap (λ n. after_ask old.place reader n) (sym found))))
        (record { progress = shows.progress; sent = shows.sent })

    -- the words after a Put: that of this turn has what was put
    put_shows : (slot : ℕ) (puts : Puts port_image old new slot) (place : ℕ → Place) → Shows old (record {
      place = place;
      finished = state.finished;
      word = written state.word old.port puts.next.i ((state.place old.port).turn % old.banks) (4 * (state.place old.port).turn + code_of (image_value old.image old.feed (state.place old.port).turn old.port slot));
    }) new.last
    put_shows slot puts place = record {
      progress = λ r inside at. absurd (progress_apart r old.port puts.next.i (old.place.turn % old.banks) inside (sym at ∙ look_word));
      sent = λ q k b link send b_in at.
          let own : IsSend old.image old.port puts.next.i puts.next.link = record { port = port_image; is = is; link_is = puts.next.sends.is } in
          let twin = same_places old.image old.banks old.port puts.next.i q k (old.place.turn % old.banks) b puts.next.link link own send (mod-lt old.place.turn fit.runs.some) b_in (sym look_word ∙ at) in
          subst (λ q. word q k b ≡ new.last.number) twin.0 (subst (λ k. word old.port k b ≡ new.last.number) twin.1 (subst (λ b. word old.port puts.next.i b ≡ new.last.number) twin.2 here_is));
    } where
      look_word : new.last.word ≡ word_now old old.port puts.next.i
      look_word = ap (λ (x : PassView). x.last.word) puts.is

      x : ℕ
      x = 4 * (state.place old.port).turn + code_of (image_value old.image old.feed (state.place old.port).turn old.port slot)

      bank : ℕ
      bank = (state.place old.port).turn % old.banks

      word : ℕ → ℕ → ℕ → ℕ
      word = written state.word old.port puts.next.i bank x

      at_own : word old.port puts.next.i bank ≡ x
      at_own = ap (λ (w : ℕ → ℕ). w bank) (written_here state.word old.port puts.next.i bank x) ∙ updated_here (state.word old.port puts.next.i) bank x

      here_is : word old.port puts.next.i (old.place.turn % old.banks) ≡ new.last.number
      here_is = subst (λ t. word old.port puts.next.i (t % old.banks) ≡ new.last.number) turn_is
          (at_own ∙ (ap (λ t. 4 * t + code_of (image_value old.image old.feed t old.port slot)) turn_is ∙ sym (ap (λ (x : PassView). x.last.number) puts.is)))

    puts_event : (slot : ℕ) → Puts port_image old new slot → IsCoreEvent turns old (Put slot) new state
    puts_event slot puts =
        let next : PutsNext port_image (state.place old.port) old.banks slot = record {
          i = puts.next.i;
          link = puts.next.link;
          slot_is = puts.next.slot_is;
          sends = here (λ a. SendsNext port_image a.puts a.takes puts.next.i puts.next.link) puts.next.sends;
          ready = here (λ a. (r : ℕ) → Stands puts.next.link.readers r → a.turn ≤ known_of a r + old.banks) puts.next.ready;
        } in
        let after : CoreState = record state {
          place = updated state.place old.port (after_put (state.place old.port) slot);
          word = written state.word old.port puts.next.i ((state.place old.port).turn % old.banks) (4 * (state.place old.port).turn + code_of (image_value old.image old.feed (state.place old.port).turn old.port slot));
        } in
        event_by (Put slot) after (record { next = next; is = refl }) (same_port_stands (ap (λ (x : PassView). x.port) puts.is) after (placed (λ a. after_put a slot) new after refl (ap (λ (x : PassView). x.place) puts.is)))
        (put_shows slot puts after.place)

    takes_event : (slot : ℕ) → HasTaken port_image old new slot → Shows old state new.last → IsCoreEvent turns old (Take slot) new state
    takes_event slot has shows =
        let found = word_is slot (after_take old.place slot) has.looks shows in
        let after : CoreState = record state { place = updated state.place old.port (after_take (state.place old.port) slot) } in
        event_by (Take slot) after (record {
          x = state.word has.looks.next.link.sender has.looks.i ((state.place old.port).turn % old.banks);
          reads = reads slot (after_take old.place slot) has.looks;
          moves = ap stamp_of found ∙ (has.now ∙ sym (ap (λ (a : Place). a.turn) stands));
          is = refl;
        }) (same_port_stands (ap (λ (x : PassView). x.port) has.looks.is) after (placed (λ a. after_take a slot) new after refl (ap (λ (x : PassView). x.place) has.looks.is)))
        (record { progress = shows.progress; sent = shows.sent })

    -- the words after a Tell: the port's progress word has the turn that is over
    tell_shows : (tells : Tells port_image old new) (place : ℕ → Place) → Shows old (record { place = place; finished = updated state.finished old.port (state.place old.port).turn; word = state.word }) new.last
    tell_shows tells place = record {
      progress = λ r inside at. subst (λ r. updated state.finished old.port (state.place old.port).turn r ≡ new.last.number) (sym look_word ∙ at)
          (updated_here state.finished old.port (state.place old.port).turn ∙ (turn_is ∙ sym (ap (λ (x : PassView). x.last.number) tells.is)));
      sent = λ q k b link send b_in at. absurd (progress_apart old.port q k b fit.inside (sym look_word ∙ at));
    } where
      look_word : new.last.word ≡ progress_word old.port
      look_word = ap (λ (x : PassView). x.last.word) tells.is

    tells_event : Tells port_image old new → IsCoreEvent turns old Tell new state
    tells_event tells =
        let after : CoreState = record state { place = updated state.place old.port (after_tell (state.place old.port)); finished = updated state.finished old.port (state.place old.port).turn } in
        event_by Tell after (record { next = here (λ a. TellsNext port_image a) tells.next; is = refl }) (same_port_stands (ap (λ (x : PassView). x.port) tells.is) after (placed after_tell new after refl (ap (λ (x : PassView). x.place) tells.is)))
        (tell_shows tells after.place)

    made_event : (e : Event) → Makes port_image old new e → (is_look e ≡ true → Shows old state new.last) → IsCoreEvent turns old e new state
    made_event (Ask reader) makes shows = asks_event reader makes (shows refl)
    made_event (Put slot) makes shows = puts_event slot makes
    made_event (Take slot) makes shows = takes_event slot makes (shows refl)
    made_event Tell makes shows = tells_event makes

    ask_waits : AskWaits port_image old new → Shows old state new.last → Waits old.image old.banks old.port port_image state
    ask_waits waits shows =
        let found = finished_is waits.reader waits.asks.next (ap (λ (x : PassView). x.last.word) waits.asks.is) shows in
        inl (
          waits.reader,
          record {
            next = here (λ a. AsksNext port_image a old.banks waits.reader) waits.asks.next;
            less = here (λ a. state.finished waits.reader + old.banks < a.turn) (subst (λ n. n + old.banks < old.place.turn) (sym found) waits.less);
          },
        )

    take_waits : TakeWaits port_image old new → Shows old state new.last → Waits old.image old.banks old.port port_image state
    take_waits waits shows =
        let found = word_is waits.slot old.place waits.looks shows in
        inr (
          waits.slot,
          record {
            x = state.word waits.looks.next.link.sender waits.looks.i ((state.place old.port).turn % old.banks);
            reads = reads waits.slot old.place waits.looks;
            less = here (λ a. stamp_of (state.word waits.looks.next.link.sender waits.looks.i ((state.place old.port).turn % old.banks)) < a.turn) (subst (λ n. stamp_of n < old.place.turn) (sym found) waits.less);
          },
        )

pub core_event : (until turns : ℕ) (old new : PassView) (e : Event) (state : CoreState) → until ≤ turns → IsFit old → IsEvent until old e new → StandsIn old state → (is_look e ≡ true → Shows old state new.last) → IsCoreEvent turns old e new state
core_event until turns old new e state few fit made stands shows = made_event old fit state stands made.port_image made.is turns (let early = made.early in omega arith) new e made.makes shows

pub core_wait : (until turns : ℕ) (old new : PassView) (state : CoreState) → until ≤ turns → IsFit old → IsWait until old new → StandsIn old state → Shows old state new.last → IsCoreStep turns old state NotYet state
core_wait until turns old new state few fit wait stands shows = record {
  port_image = wait.port_image;
  is = wait.is;
  step = (
    here old fit state stands (λ a. a.turn ≤ turns) early,
    elim wait.waits [
      | inl ask ↦ ask_waits old fit state stands wait.port_image wait.is turns early new ask shows
      | inr take ↦ take_waits old fit state stands wait.port_image wait.is turns early new take shows
    ],
    refl,
  );
} where
  early : old.place.turn ≤ turns
  early = let soon = wait.early in omega arith

pub core_done : (turns : ℕ) (pass : PassView) (state : CoreState) → IsFit pass → HasMade turns pass → StandsIn pass state → IsCoreStep turns pass state Done state
core_done turns pass state fit done stands =
    let port_image = member_at pass.image.ports pass.port fit.inside in
    record { port_image = port_image.0; is = port_image.1; step = (here pass fit state stands (λ a. a.turn ≡ turns + 1) done, refl) }

-- ---- the next event after one that has to wait

module _ (until : ℕ) (old new : PassView) (port_image : PortImage) (fit : IsFit old) (is : IsPort old.image old.port port_image) (early : old.place.turn ≤ until) where
  abbrev Next : PassView → Action → Type 0
  Next pass a = IsNext port_image pass.place pass.banks until (value_there pass) a

  ask_keeps : (a : Action) → AskWaits port_image old new → Next old a → Next new a
  ask_keeps a waits next =
      let same : action.Ask waits.reader ≡ a = one_next old.image fit.runs.image_fits old.port port_image is old.place old.banks until (value_there old) (action.Ask waits.reader) a (early, waits.asks.next) next in
      subst (Next new) same (subst (λ x. Next x (action.Ask waits.reader)) (sym waits.asks.is) (early, asked_again old fit port_image is waits.reader new.last.number waits.asks.next waits.less))

  take_keeps : (a : Action) → TakeWaits port_image old new → Next old a → Next new a
  take_keeps a waits next =
      let same : action.Take waits.slot ≡ a = one_next old.image fit.runs.image_fits old.port port_image is old.place old.banks until (value_there old) (action.Take waits.slot) a (early, waits.looks.next) next in
      subst (Next new) same (subst (λ x. Next x (action.Take waits.slot)) (sym waits.looks.is) (early, waits.looks.next))

pub wait_keeps : (until : ℕ) (old new : PassView) (port_image : PortImage) (a : Action) → IsFit old → IsWait until old new → IsPort old.image old.port port_image → IsNext port_image old.place old.banks until (value_there old) a
    → IsNext port_image new.place new.banks until (value_there new) a
wait_keeps until old new port_image a fit wait is next = elim wait.waits [
  | inl ask ↦ ask_keeps until old new port_image fit is wait.early a (subst (λ s. AskWaits s old new) (same_port old.image old.port wait.port_image port_image wait.is is) ask) next
  | inr take ↦ take_keeps until old new port_image fit is wait.early a (subst (λ s. TakeWaits s old new) (same_port old.image old.port wait.port_image port_image wait.is is) take) next
]
