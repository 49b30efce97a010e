-- The states of a packed crossbar are in each lane sound states of a core, and steps of packed ports are events there.
use Rattle.std.proofs.Common.{List, Some, ap, ap₂, arith, get_or, get_or-set_other, get_or-set_same, inl, inr, length, refl, set, subst, sym, true, ℕ, ◌%◌, ◌*◌, ◌+◌, ◌<◌, ◌∙◌, ◌≡◌, ◌≢◌, ◌≤◌}
use Rattle.std.proofs.lemmas.Bool.{cases_eq}
use mathlib.Core.Option.{some}
use lib.ListN.{get_elem?}
use Rattle.limits.specs.declared.TheConstants.{LANES}
use Rattle.logic_four.specs.Values.{code_of}
use Rattle.net_defs.specs.declared.stimulus.Stimulus.{Stimulus}
use Rattle.stim_text.specs.declared.lanes.Lanes.{Lanes}
use Rattle.image_defs.specs.{Frames.image_value, Places.IsPort, Places.Stands, declared.image.Image.Image, declared.image.LinkOut.LinkOut}
use Rattle.image_defs.specs.declared.image.PortImage.{PortImage}
use Rattle.event_defs.proofs.lemmas.{KeptLemmas.step_sound, PaceLemmas.latest_missing, SlotLemmas.updated_here, SlotLemmas.updated_there}
use Rattle.event_defs.specs.Next.{AsksNext, ReceivesNext, SendsNext, TellsNext}
use Rattle.event_defs.specs.Places.{IsSend, after_ask, after_put, after_take, after_tell, known_of, latest}
use Rattle.event_defs.specs.Steps.{CoreState, Moves, Reads, Waits, stamp_of, updated, written}
use Rattle.event_defs.specs.declared.place.Event.TheVariants.{Ask, Put, Take, Tell}
use Rattle.event_defs.specs.Row.{send_number, word_place}
use Rattle.event_defs.specs.declared.place.{CoreStep.TheVariants.Done, CoreStep.TheVariants.Moved, CoreStep.TheVariants.NotYet, Event.Event, Place.Place}
use Rattle.atomic_table.proofs.Lists.{at_set}
use Rattle.atomic_table.specs.{Seated.TableId, Table.Act, Table.State, Table.stepped}
use Rattle.list_laws.proofs.Members.{member_at}
use Rattle.slot_words.proofs.lemmas.TimeLemmas.{progress_kept, progress_set, send_room, sent_set}
use Rattle.slot_words.proofs.{LookLemmas.counted_look, LookLemmas.told_progress, LookLemmas.told_sent, lemmas.SoundLemmas.told_none}
use Rattle.slot_words.proofs.{StepLemmas.near_sender, StepLemmas.sent_read, PackedLemmas.one_kept, PackedLemmas.rule_sound}
use Rattle.slot_words.specs.Layout.{progress_in, progress_word, send_word, sent_in, told_in, turns_told}
use Rattle.slot_words.specs.packed.Sound.{ArePassesSound, Kept, PackKey, PackView}
use Rattle.slot_words.specs.packed.Words.{packed, packs, stimulus_of, turns_of}
use Rattle.slot_words.specs.{Rule.HasPass, Rule.IsKept, Rule.IsPassOf, declared.rule.TheConstants.UNCLAIMED, packed.Passes.PackPassView}
use Rattle.port_run.proofs.lemmas.NextLemmas.{asked_in}
use Rattle.port_run.specs.Core.{is_look}
use Rattle.pack_run.proofs.LaneLemmas.{both_written, lane_word, not_before, only_bank, plain_before, plain_now, put_word, stamp_last}
use Rattle.pack_run.specs.Core.{IsCoreEvent, IsCoreStep, IsLaneWord, IsStateIn, IsStateOf, ShowsIn, pass_in}
use Rattle.pack_run.specs.Steps.{AskWaits, HasAsked, HasTaken, IsEvent, IsWait, Looks, Makes, Puts, TakeWaits, Tells}
use Rattle.pack_run.specs.Pairs.{HasMadeAll}

-- the lane's state of a packed crossbar
pub state_there : (key : PackKey) (s : State (Unit {0}) PackView) (l : ℕ) → l < LANES → Kept key s → (state : CoreState) × IsStateOf key s l state
state_there key s l low kept =
    let sound : ArePassesSound key s = rule_sound key s kept in (
      _,
      record {
        sound = sound.sound l;
        finished = λ r inside. refl;
        word = λ p i link send. lane_word l (latest (sound.place p) link.slot) (sent_in key.image.value 1 s.words p i 0) (λ l. sound.word l p i 0) low (sound.packs p i link send);
        stands = λ id p v at port_is. sym (sound.places id p v at port_is).1;
      },
    )

-- an event is a counted step, and so is what has to wait
event_counted : (old : PackPassView) (event : Event) (new : PackPassView) → IsEvent old event new → new.steps ≡ old.steps + 1
event_counted old (Ask reader) new made = ap (λ (pass : PackPassView). pass.steps) made.makes.asks.is
event_counted old (Put slot) new made = ap (λ (pass : PackPassView). pass.steps) made.makes.is
event_counted old (Take slot) new made = ap (λ (pass : PackPassView). pass.steps) made.makes.looks.is
event_counted old Tell new made = ap (λ (pass : PackPassView). pass.steps) made.makes.is

wait_counted : (old new : PackPassView) → IsWait old new → new.steps ≡ old.steps + 1
wait_counted old new wait = elim wait.waits [
  | inl ask ↦ ap (λ (pass : PackPassView). pass.steps) ask.asks.is
  | inr take ↦ ap (λ (pass : PackPassView). pass.steps) take.looks.is
]

-- the words are the state's in a lane, and the progress word of port p is claimed
record HasWords (image : Image) (l p : ℕ) (now : List ℕ) (state : CoreState) : Type 0 where
  finished : (r : ℕ) → r < length image.ports → state.finished r ≡ turns_told (progress_in now r)
  word : (q k : ℕ) (link : LinkOut) → IsSend image q k link → IsLaneWord l (sent_in image 1 now q k 0) (state.word q k 0)
  claimed : progress_in now p ≢ UNCLAIMED

-- ---- by the image and lanes of a view

module _ (words : List ℕ) (views : List PackView) (id p : ℕ) (old : PackView) (table : TableId) (kept : IsKept packs old.image old.feed 1 words views) (there : get_elem? views id ≡ some old) (port_is : old.port ≡ Some p)
    (l : ℕ) (low : l < LANES) (state : CoreState) (is : IsStateIn old.image old.feed words views l state) where
  abbrev image : Image
  image = old.image

  abbrev stimulus : Stimulus
  stimulus = stimulus_of old.image old.feed l

  abbrev until : ℕ
  until = turns_of old.image old.feed

  abbrev turn : ℕ
  turn = (state.place p).turn

  mine : IsPassOf old.image words kept.place kept.owner id p old
  mine = kept.owned.mine id p old there port_is

  here_is : state.place p ≡ old.place
  here_is = is.stands id p old there port_is

  turn_is : turn ≡ old.place.turn
  turn_is = ap (λ (a : Place). a.turn) here_is

  here : (P : Place → Type 0) → P old.place → P (state.place p)
  here P it = subst P (sym here_is) it

  -- what has made all turns is done there
  done_in : HasMadeAll (pass_in table p old) → IsCoreStep l (pass_in table p old) state Done state
  done_in made =
      let port_image = member_at old.image.ports p mine.inside in
      record { port_image = port_image.0; is = port_image.1; step = (here (λ a. a.turn ≡ until + 1) made, refl) }

  module _ (word number : ℕ) (new : PackView) (after_kept : IsKept packs old.image old.feed 1 (set words word number) (set views id new)) where
    abbrev now : List ℕ
    now = set words word number

    told : new.steps ≡ old.steps + 1 → told_in old.image now new.last.word ≡ new.last.number
    told counted = counted_look old.image words now views id old new kept.looks there counted after_kept.looks

    -- what words that tell what the step saw have in its word
    module _ (ws : List ℕ) (found : told_in old.image ws new.last.word ≡ new.last.number) where
      turns_found : (r : ℕ) → r < length old.image.ports → new.last.word ≡ progress_word r → turns_told (progress_in ws r) ≡ new.last.number
      turns_found r inside at_word = sym (told_progress old.image ws r inside) ∙ subst (λ w. told_in old.image ws w ≡ new.last.number) at_word found

      sent_found : (q i : ℕ) (link : LinkOut) → IsSend old.image q i link → new.last.word ≡ send_word old.image 1 q i 0 → sent_in old.image 1 ws q i 0 ≡ new.last.number
      sent_found q i link send at_word =
          sym (told_sent old.image 1 ws q i 0 ∙ sent_read old.image 1 ws q i 0 link send (omega arith)) ∙ subst (λ w. told_in old.image ws w ≡ new.last.number) at_word found

    -- and so has a state that has those words
    shown : (after : CoreState) → HasWords old.image l p now after → told_in old.image now new.last.word ≡ new.last.number → ShowsIn l (pass_in table p old) after new.last
    shown after has found = record {
      progress = λ r inside at_word. has.finished r inside ∙ turns_found now found r inside at_word;
      sent = λ q i link send at_word. subst (λ n. IsLaneWord l n (after.word q i 0)) (sent_found now found q i link send at_word) (has.word q i link send);
    }

    module _ (port_image : PortImage) (at : IsPort old.image p port_image) (early : old.place.turn ≤ until) where
      begun : 1 ≤ turn
      begun = (is.sound.paced.places p port_image at).begun

      -- ---- the core's step

      -- what an Ask found is what the state has
      finished_is : (reader : ℕ) → AsksNext port_image old.place 1 reader → new.last.word ≡ progress_word reader → told_in old.image words new.last.word ≡ new.last.number → state.finished reader ≡ new.last.number
      finished_is reader next at_word found =
          let inside = asked_in old.image kept.runs.image_fits p port_image at old.place 1 reader next in
          is.finished reader inside ∙ turns_found words found reader inside at_word

      -- what a Take found says in the lane what the state's word says
      module _ (slot : ℕ) (place : Place) (looks : Looks port_image (pass_in table p old) (pass_in table p new) slot place) (found : told_in old.image words new.last.word ≡ new.last.number) where
        abbrev plain : ℕ
        plain = state.word looks.next.link.sender looks.i (turn % 1)

        plain_is : plain ≡ state.word looks.next.link.sender looks.i 0
        plain_is = ap (state.word looks.next.link.sender looks.i) (only_bank turn)

        number_is : sent_in old.image 1 words looks.next.link.sender looks.i 0 ≡ new.last.number
        number_is = sent_found words found looks.next.link.sender looks.i looks.source.sent looks.source.send (ap (λ (x : PackPassView). x.last.word) looks.is)

        says : IsLaneWord l new.last.number plain
        says = subst (λ n. IsLaneWord l n plain) number_is (subst (IsLaneWord l (sent_in old.image 1 words looks.next.link.sender looks.i 0)) (sym plain_is)
            (is.word looks.next.link.sender looks.i looks.source.sent looks.source.send))

        last_is : stamp_of plain ≡ latest (state.place looks.next.link.sender) looks.source.sent.slot
        last_is = ap stamp_of plain_is ∙ stamp_last (latest (state.place looks.next.link.sender) looks.source.sent.slot) (state.word looks.next.link.sender looks.i)
            (is.sound.stamps.each looks.next.link.sender looks.i looks.source.sent looks.source.send)

        near : (turn ≤ stamp_of plain + 1) × (stamp_of plain ≤ turn)
        near =
            let pace = near_sender old.image kept.runs.image_fits 1 until state.place is.sound.paced p port_image at looks.next.j looks.next.link looks.i looks.source.sent looks.next.receives.is looks.source.send looks.source.same_slot in
            (omega (arith, last_is, pace.0), omega (arith, last_is, pace.1))

        reads : Reads old.image 1 p port_image state slot plain
        reads = record {
          j = looks.next.j;
          link = looks.next.link;
          slot_is = looks.next.slot_is;
          receives = here (λ a. ReceivesNext port_image a.puts a.takes looks.next.j looks.next.link) looks.next.receives;
          i = looks.i;
          sent = looks.source.sent;
          send = looks.source.send;
          same_slot = looks.source.same_slot ∙ looks.next.slot_is;
          word = refl;
        }

      -- where the port stands after an event that makes this place
      placed : (f : Place → Place) → new.place ≡ f old.place → updated state.place p (f (state.place p)) p ≡ new.place
      placed f is_new = updated_here state.place p (f (state.place p)) ∙ (ap f here_is ∙ sym is_new)

      -- the words after an event that leaves them
      looked : now ≡ words → (place : ℕ → Place) → HasWords old.image l p now (record state { place = place })
      looked still place = record {
        finished = λ r inside. is.finished r inside ∙ ap (λ ws. turns_told (progress_in ws r)) (sym still);
        word = λ q k link send. subst (λ ws. IsLaneWord l (sent_in old.image 1 ws q k 0) (state.word q k 0)) (sym still) (is.word q k link send);
        claimed = subst (λ ws. progress_in ws p ≢ UNCLAIMED) (sym still) mine.claimed;
      }

      -- what an event comes to
      record Comes (event : Event) : Type 0 where
        after : CoreState
        moves : Moves old.image 1 p port_image state stimulus event after
        stands : after.place p ≡ new.place
        has : HasWords old.image l p now after
        others : (q : ℕ) → q ≢ p → after.place q ≡ state.place q

      ask_comes : (reader : ℕ) → HasAsked port_image (pass_in table p old) (pass_in table p new) reader → now ≡ words → told_in old.image words new.last.word ≡ new.last.number → Comes (Ask reader)
      ask_comes reader has still found =
          let same = finished_is reader has.asks.next (ap (λ (x : PackPassView). x.last.word) has.asks.is) found in
          record {
            after = record state { place = updated state.place p (after_ask (state.place p) reader (state.finished reader)) };
            moves = record {
              next = here (λ a. AsksNext port_image a 1 reader) has.asks.next;
              moves = here (λ a. a.turn ≤ state.finished reader + 1) (subst (λ n. old.place.turn ≤ n + 1) (sym same) has.enough);
              is = refl;
            };
            stands = placed (λ a. after_ask a reader (state.finished reader)) (ap (λ (x : PackPassView). x.place) has.asks.is ∙ ap (λ n. after_ask old.place reader n) (sym same));
            has = looked still (updated state.place p (after_ask (state.place p) reader (state.finished reader)));
            others = λ q away. updated_there state.place p q (after_ask (state.place p) reader (state.finished reader)) away;
          }

      take_comes : (slot : ℕ) → HasTaken port_image (pass_in table p old) (pass_in table p new) slot → now ≡ words → told_in old.image words new.last.word ≡ new.last.number → Comes (Take slot)
      take_comes slot has still found =
          let bounds = near slot (after_take old.place slot) has.looks found in
          record {
            after = record state { place = updated state.place p (after_take (state.place p) slot) };
            moves = record {
              x = plain slot (after_take old.place slot) has.looks found;
              reads = reads slot (after_take old.place slot) has.looks found;
              moves = plain_now l new.last.number (plain slot (after_take old.place slot) has.looks found) turn (says slot (after_take old.place slot) has.looks found) begun bounds.0 bounds.1
                  (has.now ∙ ap (λ t. t % 16) (sym turn_is));
              is = refl;
            };
            stands = placed (λ a. after_take a slot) (ap (λ (x : PackPassView). x.place) has.looks.is);
            has = looked still (updated state.place p (after_take (state.place p) slot));
            others = λ q away. updated_there state.place p q (after_take (state.place p) slot) away;
          }

      -- a Tell: the progress word that tells the turn afterwards is the one that was written, since it told one less
      tell_comes : Tells port_image (pass_in table p old) (pass_in table p new) → told_in old.image now new.last.word ≡ new.last.number → Comes Tell
      tell_comes tells found = record {
        after = record state { place = updated state.place p (after_tell (state.place p)); finished = updated state.finished p turn };
        moves = record { next = here (λ a. TellsNext port_image a) tells.next; is = refl };
        stands = placed after_tell (ap (λ (x : PackPassView). x.place) tells.is);
        has = record {
          finished = λ r inside. elim (cases_eq r p) [
            | inl same ↦ subst (λ r. updated state.finished p turn r ≡ turns_told (progress_in now r)) (sym same) (updated_here state.finished p turn ∙ sym tells_turn)
            | inr other ↦ updated_there state.finished p r turn other ∙ (is.finished r inside ∙ ap turns_told (sym (get_or-set_other words word r number 0 (λ e. other (e ∙ word_is)))))
          ];
          word = λ q k link send. subst (λ (f : ℕ → ℕ → ℕ → ℕ). IsLaneWord l (f q k 0) (state.word q k 0))
              (sym (progress_set old.image 1 words word number (subst (λ w. w < length old.image.ports) (sym word_is) mine.inside))) (is.word q k link send);
          claimed = λ free. let no_turn = told_none (progress_in now p) free in absurd (omega (arith, begun, tells_turn, no_turn));
        };
        others = λ q away. updated_there state.place p q (after_tell (state.place p)) away;
      } where
        tells_turn : turns_told (progress_in now p) ≡ turn
        tells_turn = turns_found now found p mine.inside (ap (λ (x : PackPassView). x.last.word) tells.is) ∙ (ap (λ (x : PackPassView). x.last.number) tells.is ∙ sym turn_is)

        word_is : word ≡ p
        word_is = elim (cases_eq word p) [
          | inl same ↦ same
          | inr other ↦
              let before : progress_in now p ≡ progress_in words p = get_or-set_other words word p number 0 (λ e. other (sym e)) in
              let has = is.sound.finished p mine.inside in
              let is_turn : state.finished p ≡ turn = is.finished p mine.inside ∙ (ap turns_told (sym before) ∙ tells_turn) in
              absurd (omega (arith, has, is_turn))
        ]

      -- a Put: the word that has what was put afterwards is the one that was written, since it was of the turn before
      module _ (slot : ℕ) (puts : Puts port_image (pass_in table p old) (pass_in table p new) slot) (found : told_in old.image now new.last.word ≡ new.last.number) where
        send : IsSend old.image p puts.next.i puts.next.link
        send = record { port = port_image; is = at; link_is = puts.next.sends.is }

        abbrev own : ℕ
        own = send_word old.image 1 p puts.next.i 0

        abbrev own_word : ℕ
        own_word = packed old.place.turn puts.planes

        has_put : get_or now own 0 ≡ own_word
        has_put = sym (told_sent old.image 1 now p puts.next.i 0)
            ∙ (subst (λ w. told_in old.image now w ≡ new.last.number) (ap (λ (x : PackPassView). x.last.word) puts.is) found
            ∙ ap (λ (x : PackPassView). x.last.number) puts.is)

        older : stamp_of (state.word p puts.next.i 0) + 1 ≡ old.place.turn
        older =
            let last = stamp_last (latest (state.place p) puts.next.link.slot) (state.word p puts.next.i) (is.sound.stamps.each p puts.next.i puts.next.link send) in
            let missing = latest_missing (state.place p) puts.next.link.slot (here (λ a. SendsNext port_image a.puts a.takes puts.next.i puts.next.link) puts.next.sends).missing in
            omega (arith, last, missing, begun, turn_is)

        put_there : word ≡ own
        put_there = elim (cases_eq word own) [
          | inl same ↦ same
          | inr other ↦
              let before : sent_in old.image 1 words p puts.next.i 0 ≡ own_word =
              sym (sent_read old.image 1 words p puts.next.i 0 puts.next.link send (omega arith)) ∙ (sym (get_or-set_other words word own number 0 (λ e. other (sym e))) ∙ has_put) in
              absurd (not_before l old.place.turn (state.word p puts.next.i 0) puts.planes (subst (λ n. IsLaneWord l n (state.word p puts.next.i 0)) before (is.word p puts.next.i puts.next.link send)) older)
        ]

        room : own < length words
        room = subst (λ n. own < n) (sym kept.long) (send_room old.image 1 p puts.next.i 0 puts.next.link send (omega arith))

        now_is : now ≡ set words own own_word
        now_is =
            let is_number : number ≡ own_word = sym (get_or-set_same words own number 0 room) ∙ subst (λ w. get_or (set words w number) own 0 ≡ own_word) put_there has_put in
            ap₂ (λ w n. set words w n) put_there is_number

        abbrev value : ℕ → ℕ
        value t = 4 * t + code_of (image_value old.image stimulus t p slot)

        put_words : (place : ℕ → Place) → HasWords old.image l p now (record { place = place; finished = state.finished; word = written state.word p puts.next.i (turn % 1) (value turn) })
        put_words place =
            let row : ℕ = word_place 1 (send_number old.image p puts.next.i) 0 in
            let first : 1 ≤ old.place.turn = omega (arith, begun, turn_is) in
            subst (λ ws. HasWords old.image l p ws (record { place = place; finished = state.finished; word = written state.word p puts.next.i (turn % 1) (value turn) })) (sym now_is) (record {
              finished = λ r inside. is.finished r inside ∙ ap turns_told (sym (progress_kept old.image 1 words row own_word r inside));
              word = λ q k link sends.
                  subst (λ b. IsLaneWord l (sent_in old.image 1 (set words own own_word) q k 0) (written state.word p puts.next.i b (value turn) q k 0)) (sym (only_bank turn))
                  (subst (λ t. IsLaneWord l (sent_in old.image 1 (set words own own_word) q k 0) (written state.word p puts.next.i 0 (value t) q k 0)) (sym turn_is)
                  (subst (λ (f : ℕ → ℕ → ℕ → ℕ). IsLaneWord l (f q k 0) (written state.word p puts.next.i 0 (value old.place.turn) q k 0)) (sym (sent_set old.image 1 words p puts.next.i 0 own_word puts.next.link send (omega arith) kept.long))
                  (both_written l (sent_in old.image 1 words) state.word p puts.next.i own_word (value old.place.turn)
                  (put_word l old.place.turn puts.planes (image_value old.image stimulus old.place.turn p slot) first (puts.values l low)) q k (is.word q k link sends))));
              claimed = λ free. mine.claimed (sym (progress_kept old.image 1 words row own_word p mine.inside) ∙ free);
            })

        put_comes : Comes (Put slot)
        put_comes = record {
          after = record state { place = updated state.place p (after_put (state.place p) slot); word = written state.word p puts.next.i (turn % 1) (value turn) };
          moves = record {
            next = record {
              i = puts.next.i;
              link = puts.next.link;
              slot_is = puts.next.slot_is;
              sends = here (λ a. SendsNext port_image a.puts a.takes puts.next.i puts.next.link) puts.next.sends;
              ready = here (λ a. (r : ℕ) → Stands puts.next.link.readers r → a.turn ≤ known_of a r + 1) puts.next.ready;
            };
            is = refl;
          };
          stands = placed (λ a. after_put a slot) (ap (λ (x : PackPassView). x.place) puts.is);
          has = put_words (updated state.place p (after_put (state.place p) slot));
          others = λ q away. updated_there state.place p q (after_put (state.place p) slot) away;
        }

      made_comes : (event : Event) → Makes port_image (pass_in table p old) (pass_in table p new) event → new.steps ≡ old.steps + 1 → (is_look event ≡ true → now ≡ words) → Comes event
      made_comes (Ask reader) makes counted still = ask_comes reader makes (still refl) (subst (λ ws. told_in old.image ws new.last.word ≡ new.last.number) (still refl) (told counted))
      made_comes (Put slot) makes counted still = put_comes slot makes (told counted)
      made_comes (Take slot) makes counted still = take_comes slot makes (still refl) (subst (λ ws. told_in old.image ws new.last.word ≡ new.last.number) (still refl) (told counted))
      made_comes Tell makes counted still = tell_comes makes (told counted)

      -- what has to wait has to wait there
      ask_waits : AskWaits port_image (pass_in table p old) (pass_in table p new) → told_in old.image words new.last.word ≡ new.last.number → Waits old.image 1 p port_image state
      ask_waits waits found =
          let same = finished_is waits.reader waits.asks.next (ap (λ (x : PackPassView). x.last.word) waits.asks.is) found in
          inl (
            waits.reader,
            record {
              next = here (λ a. AsksNext port_image a 1 waits.reader) waits.asks.next;
              less = here (λ a. state.finished waits.reader + 1 < a.turn) (subst (λ n. n + 1 < old.place.turn) (sym same) waits.less);
            },
          )

      take_waits : TakeWaits port_image (pass_in table p old) (pass_in table p new) → told_in old.image words new.last.word ≡ new.last.number → Waits old.image 1 p port_image state
      take_waits waits found =
          let bounds = near waits.slot old.place waits.looks found in
          inr (
            waits.slot,
            record {
              x = plain waits.slot old.place waits.looks found;
              reads = reads waits.slot old.place waits.looks found;
              less = plain_before l new.last.number (plain waits.slot old.place waits.looks found) turn (says waits.slot old.place waits.looks found) begun bounds.0 bounds.1
                  (λ e. waits.other (e ∙ ap (λ t. t % 16) turn_is));
            },
          )

    -- ---- the state after an event

    -- a seat other than this has another port
    other_port : (other q : ℕ) (v : PackView) → get_elem? views other ≡ some v → v.port ≡ Some q → other ≢ id → q ≢ p
    other_port other q v at has away same =
        let theirs = kept.owned.mine other p v at (has ∙ ap Some same) in
        away (theirs.owner_is ∙ sym mine.owner_is)

    -- the seat has its port still
    same_seat : HasPass (set views id new) after_kept.owner p → new.port ≡ Some p
    same_seat has =
        elim (at_set views id (after_kept.owner p) new has.view has.at) [
          | inl t ↦ ap (λ (v : PackView). v.port) t.1 ∙ has.port_is
          | inr t ↦ absurd (other_port (after_kept.owner p) p has.view t.1 has.port_is t.0 refl)
        ]

    event_in : (event : Event) → IsEvent (pass_in table p old) event (pass_in table p new) → (is_look event ≡ true → now ≡ words)
        → (core : IsCoreEvent l (pass_in table p old) event (pass_in table p new) state) × IsStateIn old.image old.feed now (set views id new) l core.after
    event_in event made still =
        let counted = event_counted (pass_in table p old) event (pass_in table p new) made in
        let comes = made_comes made.port_image made.is made.early event made.makes counted still in
        let core : IsCoreEvent l (pass_in table p old) event (pass_in table p new) state = record {
          after = comes.after;
          step = record { port_image = made.port_image; is = made.is; step = (here (λ a. a.turn ≤ until) made.early, comes.moves) };
          stands = comes.stands;
          shows = shown comes.after comes.has (told counted);
        } in (
          core,
          record {
            sound = step_sound old.image stimulus 1 until kept.runs.image_fits (omega arith) state is.sound p made.port_image made.is (Moved event) comes.after core.step.step;
            finished = comes.has.finished;
            word = comes.has.word;
            stands = λ other q v at port. elim (at_set views id other new v at) [
              | inl t ↦
                  let same : Some p ≡ Some q = sym (same_seat (after_kept.owned.seen p mine.inside comes.has.claimed)) ∙ (ap (λ (v : PackView). v.port) t.1 ∙ port) in
                  let same_q : p ≡ q = cc in
                  subst (λ q. comes.after.place q ≡ v.place) same_q (comes.stands ∙ ap (λ (v : PackView). v.place) t.1)
              | inr t ↦ comes.others q (other_port other q v t.1 port t.0) ∙ is.stands other q v t.1 port
            ];
          },
        )

    wait_in : IsWait (pass_in table p old) (pass_in table p new) → now ≡ words → IsCoreStep l (pass_in table p old) state NotYet state
    wait_in wait still =
        let found = subst (λ ws. told_in old.image ws new.last.word ≡ new.last.number) still (told (wait_counted (pass_in table p old) (pass_in table p new) wait)) in
        record {
          port_image = wait.port_image;
          is = wait.is;
          step = (here (λ a. a.turn ≤ until) wait.early, elim wait.waits [ inl ask ↦ ask_waits wait.port_image wait.is wait.early ask found | inr take ↦ take_waits wait.port_image wait.is wait.early take found ], refl);
        }

-- ---- by the key

module _ (key : PackKey) (s : State (Unit {0}) PackView) (id p : ℕ) (old : PackView) (table : TableId) (kept : Kept key s) (there : get_elem? s.views id ≡ some old) (port_is : old.port ≡ Some p) where
  same : (old.image ≡ key.image.value) × (old.feed ≡ key.feed.value)
  same = let every = kept.owned.same id old there in (every.0, every.1)

  -- what holds of the key's image and lanes holds of the view's, and the other way round
  of_view : (P : Image → Lanes → Type 0) → P key.image.value key.feed.value → P old.image old.feed
  of_view P it = subst (λ i. P i old.feed) (sym same.0) (subst (P key.image.value) (sym same.1) it)

  of_key : (P : Image → Lanes → Type 0) → P old.image old.feed → P key.image.value key.feed.value
  of_key P it = subst (P key.image.value) same.1 (subst (λ i. P i old.feed) same.0 it)

  kept_now : IsKept packs old.image old.feed 1 s.words s.views
  kept_now = of_view (λ i m. IsKept packs i m 1 s.words s.views) (one_kept key s kept)

  module _ (l : ℕ) (low : l < LANES) (state : CoreState) (is : IsStateOf key s l state) where
    state_now : IsStateIn old.image old.feed s.words s.views l state
    state_now = of_view (λ i m. IsStateIn i m s.words s.views l state) is

    pub done_there : HasMadeAll (pass_in table p old) → IsCoreStep l (pass_in table p old) state Done state
    done_there made = done_in s.words s.views id p old table kept_now there port_is l low state state_now made

    module _ (word number : ℕ) (held : List (ℕ × Unit {0})) (new : PackView) (act : Act (Unit {0})) (after : Kept key (stepped s word number id held new act)) where
      kept_after : IsKept packs old.image old.feed 1 (set s.words word number) (set s.views id new)
      kept_after = of_view (λ i m. IsKept packs i m 1 (set s.words word number) (set s.views id new)) (one_kept key (stepped s word number id held new act) after)

      pub event_there : (event : Event) → IsEvent (pass_in table p old) event (pass_in table p new) → (is_look event ≡ true → set s.words word number ≡ s.words)
          → (core : IsCoreEvent l (pass_in table p old) event (pass_in table p new) state) × IsStateOf key (stepped s word number id held new act) l core.after
      event_there event made still =
          let both = event_in s.words s.views id p old table kept_now there port_is l low state state_now word number new kept_after event made still in
          (both.0, of_key (λ i m. IsStateIn i m (set s.words word number) (set s.views id new) l both.0.after) both.1)

      pub wait_there : IsWait (pass_in table p old) (pass_in table p new) → set s.words word number ≡ s.words → IsCoreStep l (pass_in table p old) state NotYet state
      wait_there wait still = wait_in s.words s.views id p old table kept_now there port_is l low state state_now word number new kept_after wait still
