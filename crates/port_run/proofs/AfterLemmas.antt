-- After an event of a port the words of a crossbar, and the places of its passes, are those of the core's state.
use Rattle.std.proofs.Common.{List, Some, ap, ap₂, arith, get_or, get_or-set_other, get_or-set_same, inl, inr, length, mod-lt, refl, set, subst, sym, true, ℕ, ◌%◌, ◌*◌, ◌+◌, ◌<◌, ◌∙◌, ◌≡◌, ◌≢◌, ◌≤◌}
use Rattle.std.proofs.lemmas.Bool.{cases_eq}
use mathlib.Core.Option.{some}
use lib.ListN.{get_elem?}
use Rattle.logic_four.specs.Values.{code_of}
use Rattle.image_defs.specs.{Frames.image_value, Places.IsPort, declared.image.Image.Image, declared.image.LinkOut.LinkOut, declared.image.PortImage.PortImage}
use Rattle.net_defs.specs.declared.stimulus.Stimulus.{Stimulus}
use Rattle.event_defs.proofs.lemmas.{KeptLemmas.step_sound, PaceLemmas.latest_missing, PaceLemmas.same_port, PaceLemmas.same_send}
use Rattle.event_defs.proofs.lemmas.{SlotLemmas.updated_here, SlotLemmas.updated_there, WordLemmas.found_stamp, WordLemmas.stamp_in}
use Rattle.event_defs.specs.Steps.{CoreState, Moves, stamp_of, updated, written}
use Rattle.event_defs.specs.declared.place.Event.TheVariants.{Ask, Put, Take, Tell}
use Rattle.event_defs.specs.{Next.SendsNext, Places.IsSend, Places.latest, Row.send_number, Row.word_place, Sound.IsSound}
use Rattle.event_defs.specs.declared.place.{CoreStep.TheVariants.Moved, Event.Event, Place.Place}
use Rattle.atomic_table.proofs.Lists.{at_set}
use Rattle.atomic_table.specs.Seated.{TableId}
use Rattle.slot_words.proofs.lemmas.TimeLemmas.{progress_kept, progress_set, send_room, sent_set}
use Rattle.slot_words.proofs.{LookLemmas.told_progress, LookLemmas.told_sent, lemmas.SoundLemmas.told_none, StepLemmas.sent_read}
use Rattle.slot_words.specs.Layout.{progress_in, send_word, sent_in, told_in, turns_told}
use Rattle.slot_words.specs.{plain.Passes.PassView, Rule.HasPass, Rule.IsKept, Rule.IsPassOf, plain.Words.plain, plain.Words.turns_of, plain.Sound.PlainView}
use Rattle.port_run.specs.{Core.IsCoreEvent, Core.is_look, Core.pass_in, Steps.IsEvent, Steps.Makes}

-- the state of a core has these words, and in it the ports stand where these passes do
pub record IsStateIn (image : Image) (stimulus : Stimulus) (banks : ℕ) (words : List ℕ) (views : List PlainView) (state : CoreState) : Type 0 where
  pub sound : IsSound image stimulus banks (turns_of image stimulus) state
  pub finished : (r : ℕ) → r < length image.ports → state.finished r ≡ turns_told (progress_in words r)
  pub word : state.word ≡ sent_in image banks words
  pub stands : (id p : ℕ) (v : PlainView) → get_elem? views id ≡ some v → v.port ≡ Some p → state.place p ≡ v.place

-- the words are the state's, and the progress word of port p isn't that of a port that is free
record HasWords (image : Image) (banks p free : ℕ) (now : List ℕ) (state : CoreState) : Type 0 where
  finished : (r : ℕ) → r < length image.ports → state.finished r ≡ turns_told (progress_in now r)
  word : state.word ≡ sent_in image banks now
  claimed : progress_in now p ≢ free

module _ (words : List ℕ) (views : List PlainView) (id p : ℕ) (old : PlainView) (kept : IsKept plain old.image old.feed old.banks words views) (there : get_elem? views id ≡ some old) (port_is : old.port ≡ Some p)
    (state : CoreState) (is : IsStateIn old.image old.feed old.banks words views state) where
  mine : IsPassOf old.image words kept.place kept.owner id p old
  mine = kept.owned.mine id p old there port_is

  here_is : state.place p ≡ old.place
  here_is = is.stands id p old there port_is

  module _ (free : ℕ) (none : (n : ℕ) → n ≡ free → turns_told n ≡ 0) (claimed : progress_in words p ≢ free) where
    -- an Ask or a Take leaves the words
    looked : (now : List ℕ) (place : ℕ → Place) → now ≡ words → HasWords old.image old.banks p free now (record { place = place; finished = state.finished; word = state.word })
    looked now place same = record {
      finished = λ r low. is.finished r low ∙ ap (λ ws. turns_told (progress_in ws r)) (sym same);
      word = is.word ∙ ap (λ ws. sent_in old.image old.banks ws) (sym same);
      claimed = subst (λ ws. progress_in ws p ≢ free) (sym same) claimed;
    }

    module _ (port_image : PortImage) (at : IsPort old.image p port_image) (word number : ℕ) where
      begun : 1 ≤ (state.place p).turn
      begun = (is.sound.paced.places p port_image at).begun

      -- a Put: the word that has what was put afterwards is the one that was written, since it had a turn before
      module _ (i : ℕ) (link : LinkOut) (sends : SendsNext port_image (state.place p).puts (state.place p).takes i link) (x : ℕ) (stamp : stamp_of x ≡ (state.place p).turn)
          (told : get_or (set words word number) (send_word old.image old.banks p i ((state.place p).turn % old.banks)) 0 ≡ x) where
        send : IsSend old.image p i link
        send = record { port = port_image; is = at; link_is = sends.is }

        abbrev bank : ℕ
        bank = (state.place p).turn % old.banks

        abbrev own : ℕ
        own = send_word old.image old.banks p i bank

        low : bank < old.banks
        low = mod-lt (state.place p).turn kept.runs.some

        older : stamp_of (state.word p i bank) < (state.place p).turn
        older =
            let turn : ℕ = (state.place p).turn in
            let before : latest (state.place p) link.slot + 1 ≡ turn = let e = latest_missing (state.place p) link.slot sends.missing in omega (arith, begun) in
            elim (found_stamp old.banks (latest (state.place p) link.slot) turn (state.word p i) kept.runs.some begun (omega arith) (omega arith) (is.sound.stamps.each p i link send)) [
              | inl now ↦ let high = now.0 in absurd (omega arith)
              | inr less ↦ less.1
            ]

        put_there : word ≡ own
        put_there = elim (cases_eq word own) [
          | inl same ↦ same
          | inr other ↦
              let before : get_or words own 0 ≡ x = sym (get_or-set_other words word own number 0 (λ e. other (sym e))) ∙ told in
              let has : state.word p i bank ≡ x = ap (λ f. f p i bank) is.word ∙ (sym (sent_read old.image old.banks words p i bank link send low) ∙ before) in
              let turn_is : stamp_of (state.word p i bank) ≡ (state.place p).turn = ap stamp_of has ∙ stamp in
              absurd (omega (arith, older))
        ]

        room : own < length words
        room = subst (λ n. own < n) (sym kept.long) (send_room old.image old.banks p i bank link send low)

        now_is : set words word number ≡ set words own x
        now_is =
            let number_is : number ≡ x = sym (get_or-set_same words own number 0 room) ∙ subst (λ w. get_or (set words w number) own 0 ≡ x) put_there told in
            ap₂ (λ w n. set words w n) put_there number_is

        put_words : (place : ℕ → Place) → HasWords old.image old.banks p free (set words word number) (record { place = place; finished = state.finished; word = written state.word p i bank x })
        put_words place =
            let row : ℕ = word_place old.banks (send_number old.image p i) bank in
            subst (λ ws. HasWords old.image old.banks p free ws (record { place = place; finished = state.finished; word = written state.word p i bank x })) (sym now_is) (record {
              finished = λ r inside. is.finished r inside ∙ ap turns_told (sym (progress_kept old.image old.banks words row x r inside));
              word = ap (λ f. written f p i bank x) is.word ∙ sym (sent_set old.image old.banks words p i bank x link send low kept.long);
              claimed = λ is_free. claimed (sym (progress_kept old.image old.banks words row x p mine.inside) ∙ is_free);
            })

      -- a Tell: the progress word that tells the turn afterwards is the one that was written, since it told one less
      module _ (told : turns_told (progress_in (set words word number) p) ≡ (state.place p).turn) where
        told_there : word ≡ p
        told_there = elim (cases_eq word p) [
          | inl same ↦ same
          | inr other ↦
              let before : progress_in (set words word number) p ≡ progress_in words p = get_or-set_other words word p number 0 (λ e. other (sym e)) in
              let has = is.sound.finished p mine.inside in
              let turn_is : state.finished p ≡ (state.place p).turn = is.finished p mine.inside ∙ (ap turns_told (sym before) ∙ told) in
              absurd (omega arith)
        ]

        tell_words : (place : ℕ → Place) → HasWords old.image old.banks p free (set words word number) (record { place = place; finished = updated state.finished p (state.place p).turn; word = state.word })
        tell_words place = record {
          finished = λ r inside. elim (cases_eq r p) [
            | inl same ↦ subst (λ r. updated state.finished p (state.place p).turn r ≡ turns_told (progress_in (set words word number) r)) (sym same)
                (updated_here state.finished p (state.place p).turn ∙ sym told)
            | inr other ↦ updated_there state.finished p r (state.place p).turn other
                ∙ (is.finished r inside ∙ ap turns_told (sym (get_or-set_other words word r number 0 (λ e. other (e ∙ told_there)))))
          ];
          word = is.word ∙ sym (progress_set old.image old.banks words word number (subst (λ w. w < length old.image.ports) (sym told_there) mine.inside));
          claimed = λ is_free. let no_turn = none (progress_in (set words word number) p) is_free in absurd (omega (arith, begun, told));
        }

      module _ (table : TableId) (new : PlainView) (after : CoreState) where
        -- the words afterwards, by the core's step and by the word that the step named
        made_words : (event : Event) → Makes port_image (pass_in table p old) (pass_in table p new) event → Moves old.image old.banks p port_image state old.feed event after
            → (is_look event ≡ true → set words word number ≡ words) → told_in old.image (set words word number) new.last.word ≡ new.last.number → HasWords old.image old.banks p free (set words word number) after
        made_words (Ask reader) makes moves still told = subst (HasWords old.image old.banks p free (set words word number)) (sym moves.is) (looked (set words word number) _ (still refl))
        made_words (Take slot) makes moves still told = subst (HasWords old.image old.banks p free (set words word number)) (sym moves.is) (looked (set words word number) _ (still refl))
        made_words Tell makes moves still told =
            let word_is : new.last.word ≡ p = ap (λ (x : PassView). x.last.word) makes.is in
            let number_is : new.last.number ≡ (state.place p).turn = ap (λ (x : PassView). x.last.number) makes.is ∙ ap (λ (a : Place). a.turn) (sym here_is) in
            subst (HasWords old.image old.banks p free (set words word number)) (sym moves.is)
            (tell_words (sym (told_progress old.image (set words word number) p mine.inside) ∙ (ap (told_in old.image (set words word number)) (sym word_is) ∙ (told ∙ number_is))) _)
        made_words (Put slot) makes moves still told =
            let turn : ℕ = (state.place p).turn in
            let value : ℕ = 4 * turn + code_of (image_value old.image old.feed turn p slot) in
            let twin = same_send old.image kept.runs.image_fits p makes.next.i moves.next.i makes.next.link moves.next.link
            (record { port = port_image; is = at; link_is = makes.next.sends.is }) (record { port = port_image; is = at; link_is = moves.next.sends.is }) (makes.next.slot_is ∙ sym moves.next.slot_is) in
            let word_is : new.last.word ≡ send_word old.image old.banks p moves.next.i (turn % old.banks) =
            ap (λ (x : PassView). x.last.word) makes.is ∙ (ap (λ i. send_word old.image old.banks p i (old.place.turn % old.banks)) twin.0
            ∙ ap (λ (a : Place). send_word old.image old.banks p moves.next.i (a.turn % old.banks)) (sym here_is)) in
            let number_is : new.last.number ≡ value = ap (λ (x : PassView). x.last.number) makes.is ∙ ap (λ (a : Place). 4 * a.turn + code_of (image_value old.image old.feed a.turn p slot)) (sym here_is) in
            subst (HasWords old.image old.banks p free (set words word number)) (sym moves.is)
            (put_words moves.next.i moves.next.link moves.next.sends value (stamp_in turn (image_value old.image old.feed turn p slot))
            (sym (told_sent old.image old.banks (set words word number) p moves.next.i (turn % old.banks)) ∙ (ap (told_in old.image (set words word number)) (sym word_is) ∙ (told ∙ number_is))) _)

        -- the other ports stand where they stood
        others_stand : (event : Event) → Moves old.image old.banks p port_image state old.feed event after → (q : ℕ) → q ≢ p → after.place q ≡ state.place q
        others_stand (Ask reader) moves q other = ap (λ (s : CoreState). s.place q) moves.is ∙ updated_there state.place p q _ other
        others_stand (Put slot) moves q other = ap (λ (s : CoreState). s.place q) moves.is ∙ updated_there state.place p q _ other
        others_stand (Take slot) moves q other = ap (λ (s : CoreState). s.place q) moves.is ∙ updated_there state.place p q _ other
        others_stand Tell moves q other = ap (λ (s : CoreState). s.place q) moves.is ∙ updated_there state.place p q _ other

  module _ (table : TableId) (word number : ℕ) (new : PlainView) (now : IsKept plain old.image old.feed old.banks (set words word number) (set views id new)) where
    -- a seat other than this has another port
    other_port : (other q : ℕ) (v : PlainView) → get_elem? views other ≡ some v → v.port ≡ Some q → other ≢ id → q ≢ p
    other_port other q v at has away same =
        let theirs = kept.owned.mine other p v at (has ∙ ap Some same) in
        away (theirs.owner_is ∙ sym mine.owner_is)

    -- the seat has its port still
    same_seat : HasPass (set views id new) now.owner p → new.port ≡ Some p
    same_seat has =
        elim (at_set views id (now.owner p) new has.view has.at) [
          | inl t ↦ ap (λ (v : PlainView). v.port) t.1 ∙ has.port_is
          | inr t ↦ absurd (other_port (now.owner p) p has.view t.1 has.port_is t.0 refl)
        ]

    pub after_there : (until : ℕ) (event : Event) → IsEvent until (pass_in table p old) event (pass_in table p new) → (core : IsCoreEvent (turns_of old.image old.feed) (pass_in table p old) event (pass_in table p new) state)
        → (is_look event ≡ true → set words word number ≡ words) → told_in old.image (set words word number) new.last.word ≡ new.last.number
        → IsStateIn old.image old.feed old.banks (set words word number) (set views id new) core.after
    after_there until event made core still told =
        let port_image : PortImage = core.step.port_image in
        let at : IsPort old.image p port_image = core.step.is in
        let makes : Makes port_image (pass_in table p old) (pass_in table p new) event = subst (λ s. Makes s (pass_in table p old) (pass_in table p new) event) (same_port old.image p made.port_image port_image made.is at) made.makes in
        let has = made_words _ told_none mine.claimed port_image at word number table new core.after event makes core.step.step.1 still told in
        record {
          sound = step_sound old.image old.feed old.banks (turns_of old.image old.feed) kept.runs.image_fits kept.runs.some state is.sound p port_image at (Moved event) core.after core.step.step;
          finished = has.finished;
          word = has.word;
          stands = λ other q v here port. elim (at_set views id other new v here) [
            | inl t ↦
                let same : Some p ≡ Some q = sym (same_seat (now.owned.seen p mine.inside has.claimed)) ∙ (ap (λ (v : PlainView). v.port) t.1 ∙ port) in
                let same_q : p ≡ q = cc in
                subst (λ q. core.after.place q ≡ v.place) same_q (core.stands ∙ ap (λ (v : PlainView). v.place) t.1)
            | inr t ↦ others_stand _ told_none mine.claimed port_image at word number table new core.after event core.step.step.1 q (other_port other q v t.1 port t.0) ∙ is.stands other q v t.1 port
          ];
        }
