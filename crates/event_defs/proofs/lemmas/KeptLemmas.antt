-- Each step keeps soundness; a Take has its own turn's value; a Put comes when the readers are near enough.
use Rattle.std.proofs.Common.{List, [], ap, arith, inl, inr, length, mod-lt, refl, subst, sym, ℕ, ◌%◌, ◌*◌, ◌+◌, ◌-◌, ◌<◌, ◌∙◌, ◌∷◌, ◌≡◌, ◌≤◌, ◌⊎◌}
use Rattle.std.proofs.lemmas.{Bool.cases_eq, Option.slice_get_within}
use Rattle.logic_four.specs.Values.{code_of}
use Rattle.net_defs.specs.declared.stimulus.Stimulus.{Stimulus}
use Rattle.image_defs.specs.{Frames.image_value, Places.IsPort, Places.Stands, WellFormed.IsWellFormed, declared.image.Image.Image}
use Rattle.image_defs.specs.declared.image.{LinkOut.LinkOut, PortImage.PortImage}
use Rattle.event_defs.proofs.lemmas.PaceLemmas.{CanStand, asks, latest_put, puts, reader_in, same_send, send_at, source, stands, starts, takes, tells}
use Rattle.event_defs.proofs.lemmas.StampLemmas.{coded_put, stamped_put, stamped_still, starts_coded, starts_stamped}
use Rattle.event_defs.proofs.lemmas.SlotLemmas.{each_updated, updated_here, updated_there}
use Rattle.event_defs.proofs.lemmas.WordLemmas.{coded_is, found_stamp, stamp_in}
use Rattle.event_defs.specs.Places.{IsSend, after_ask, after_put, after_take, after_tell, latest}
use Rattle.event_defs.specs.Steps.{AreSteps, Asks, CoreState, IsStep, Puts, Reads, Takes, Tells, first_state, stamp_of, updated, written}
use Rattle.event_defs.specs.declared.place.Event.TheVariants.{Ask, Put, Take, Tell}
use Rattle.event_defs.specs.{Next.PutsNext, Sound.IsCoded, Sound.IsSound, declared.place.CoreStep.CoreStep}
use Rattle.event_defs.specs.declared.place.{CoreStep.TheVariants.Done, CoreStep.TheVariants.Moved, CoreStep.TheVariants.NotYet, Place.Place}

module _ (image : Image) (stimulus : Stimulus) (banks until : ℕ) (fits : IsWellFormed image) (some : 1 ≤ banks) where
  pub starts_sound : IsSound image stimulus banks until (first_state (length image.ports))
  starts_sound = record {
    finished = λ p inside. omega arith;
    paced = starts image fits banks until some;
    stamps = starts_stamped image fits banks;
    codes = starts_coded image fits banks stimulus;
  }

  module _ (old : CoreState) (sound : IsSound image stimulus banks until old) (p : ℕ) (port : PortImage) (is : IsPort image p port) where
    abbrev here : Place
    here = old.place p

    begun : 1 ≤ here.turn
    begun = (sound.paced.places p port is).begun

    -- a new place, in which nothing else was put, of the same turn
    still : (x : Place) → x.turn ≡ here.turn → ((i : ℕ) (link : LinkOut) → IsSend image p i link → latest x link.slot ≡ latest here link.slot) → CanStand image fits banks until old.place sound.paced p port is x
        → IsSound image stimulus banks until (record old { place = updated old.place p x })
    still x turn_is same can = record {
      finished = each_updated (λ q (a : Place). q < length image.ports → old.finished q + 1 ≡ a.turn) old.place p x (λ q_in. sound.finished p q_in ∙ sym turn_is) (λ q _. sound.finished q);
      paced = stands image fits banks until old.place sound.paced p port is x can;
      stamps = stamped_still image fits banks old.place old.word p x sound.stamps same;
      codes = sound.codes;
    }

    -- what a Take reads is a send that this port reads
    pub reads_send : (slot x : ℕ) (r : Reads image banks p port old slot x) → Stands r.sent.readers p
    reads_send slot x r =
        let from = source image fits p port r.j r.link is r.receives.is in
        let same = same_send image fits r.link.sender r.i from.0 r.sent from.1 r.send from.2 (r.same_slot ∙ (sym r.slot_is ∙ sym from.3)) in
        subst (λ (l : LinkOut). Stands l.readers p) (sym same.1) from.4

    -- the word is of this turn, which its sender has put, or of a turn before, which is its sender's last
    pub read_stamp : (slot x : ℕ) (r : Reads image banks p port old slot x)
        → ((here.turn ≤ latest (old.place r.link.sender) slot) × (stamp_of x ≡ here.turn)) ⊎ ((latest (old.place r.link.sender) slot < here.turn) × (stamp_of x < here.turn))
    read_stamp slot x r =
        let k = sound.paced.pace r.link.sender r.i p r.sent r.send (reads_send slot x r) in
        let stamps = sound.stamps.each r.link.sender r.i r.sent r.send in
        let found = found_stamp banks (latest (old.place r.link.sender) r.sent.slot) here.turn (old.word r.link.sender r.i) some begun k.behind k.ahead stamps in
        subst (λ s. ((here.turn ≤ latest (old.place r.link.sender) s) × (stamp_of x ≡ here.turn)) ⊎ ((latest (old.place r.link.sender) s < here.turn) × (stamp_of x < here.turn))) r.same_slot
        (subst (λ w. ((here.turn ≤ latest (old.place r.link.sender) r.sent.slot) × (stamp_of w ≡ here.turn)) ⊎ ((latest (old.place r.link.sender) r.sent.slot < here.turn) × (stamp_of w < here.turn))) (sym r.word) found)

    -- a word of this turn is there only where its sender has put it
    pub read_put : (slot x : ℕ) (r : Reads image banks p port old slot x) → stamp_of x ≡ here.turn → here.turn ≤ latest (old.place r.link.sender) slot
    read_put slot x r stamp = elim (read_stamp slot x r) [
      | inl now ↦ now.0
      | inr older ↦ let less = older.1 in absurd (omega arith)
    ]

    -- it has the sender's value of this turn
    pub read_value : (slot x : ℕ) (r : Reads image banks p port old slot x) → stamp_of x ≡ here.turn → x ≡ 4 * here.turn + code_of (image_value image stimulus here.turn r.link.sender slot)
    read_value slot x r stamp =
        let coded = sound.codes.each r.link.sender r.i (here.turn % banks) r.sent r.send (mod-lt here.turn some) in
        let is_coded : IsCoded (λ k. image_value image stimulus k r.link.sender slot) x = subst (λ s. IsCoded (λ k. image_value image stimulus k r.link.sender s) x) r.same_slot (subst (λ w. IsCoded (λ k. image_value image stimulus k r.link.sender r.sent.slot) w) (sym r.word) coded) in
        coded_is (λ k. image_value image stimulus k r.link.sender slot) x here.turn is_coded begun stamp

    -- and a word of another turn is of one before
    pub read_older : (slot x : ℕ) (r : Reads image banks p port old slot x) → (stamp_of x ≡ here.turn → ⊥) → stamp_of x < here.turn
    read_older slot x r other = elim (read_stamp slot x r) [
      | inl now ↦ absurd (other now.1)
      | inr older ↦ older.1
    ]

    -- a Put comes when each reader has finished the turn whose value is overwritten
    pub put_spares : (slot : ℕ) (next : PutsNext port here banks slot) (r : ℕ) → Stands next.link.readers r → here.turn ≤ old.finished r + banks
    put_spares slot next r reads =
        let r_in = reader_in image fits p next.i r next.link (record { port = port; is = is; link_is = next.sends.is }) reads in
        let knows = sound.paced.known p r (slice_get_within image.ports p port is) r_in in
        let has = sound.finished r r_in in
        let enough = next.ready r reads in
        omega arith

    asks_sound : (r : ℕ) (new : CoreState) → Asks image banks p port old r new → IsSound image stimulus banks until new
    asks_sound r new a =
        let r_in = reader_in image fits p a.next.i r a.next.link (record { port = port; is = is; link_is = a.next.sends.is }) a.next.reads in
        subst (IsSound image stimulus banks until) (sym a.is)
        (still (after_ask here r (old.finished r)) refl (λ i link s. refl) (asks image fits banks until old.place sound.paced p port is r (old.finished r) r_in (let e = sound.finished r r_in in omega arith)))

    takes_sound : (slot : ℕ) (new : CoreState) → here.turn ≤ until → Takes image banks p port old slot new → IsSound image stimulus banks until new
    takes_sound slot new early t =
        let r = t.reads in
        let fresh : here.turn ≤ latest (old.place r.link.sender) r.link.slot = subst (λ s. here.turn ≤ latest (old.place r.link.sender) s) (sym r.slot_is) (read_put slot t.x r t.moves) in
        let can = takes image fits banks until old.place sound.paced p port is r.j r.link r.receives.is r.receives.missing early fresh in
        subst (IsSound image stimulus banks until) (sym t.is) (subst (λ s. IsSound image stimulus banks until (record old { place = updated old.place p (after_take here s) })) r.slot_is (still (after_take here r.link.slot) refl (λ i link s. refl) can))

    tells_sound : (new : CoreState) → here.turn ≤ until → Tells image banks p port old new → IsSound image stimulus banks until new
    tells_sound new early t = subst (IsSound image stimulus banks until) (sym t.is) (record {
      finished = λ q q_in. elim (cases_eq q p) [
        | inl same ↦ subst (λ q. updated old.finished p here.turn q + 1 ≡ (updated old.place p (after_tell here) q).turn) (sym same) (ap (λ n. n + 1) (updated_here old.finished p here.turn) ∙ sym (ap (λ (a : Place). a.turn) (updated_here old.place p (after_tell here))))
        | inr other ↦ ap (λ n. n + 1) (updated_there old.finished p q here.turn other) ∙ (sound.finished q q_in ∙ sym (ap (λ (a : Place). a.turn) (updated_there old.place p q (after_tell here) other)))
      ];
      paced = stands image fits banks until old.place sound.paced p port is (after_tell here) (tells image fits banks until old.place sound.paced p port is t.next early);
      stamps = stamped_still image fits banks old.place old.word p (after_tell here) sound.stamps (λ i link s. minus ∙ sym (latest_put here link.slot (t.next.all_put i link (send_at image p i link port s is))));
      codes = sound.codes;
    }) where
      minus : here.turn + 1 - 1 ≡ here.turn
      minus = omega arith

    puts_sound : (slot : ℕ) (new : CoreState) → here.turn ≤ until → Puts image banks p port old stimulus slot new → IsSound image stimulus banks until new
    puts_sound slot new early t =
        let mine : IsSend image p t.next.i t.next.link = record { port = port; is = is; link_is = t.next.sends.is } in
        let x : ℕ = 4 * here.turn + code_of (image_value image stimulus here.turn p t.next.link.slot) in
        let made : IsSound image stimulus banks until (record old { place = updated old.place p (after_put here t.next.link.slot); word = written old.word p t.next.i (here.turn % banks) (4 * here.turn + code_of (image_value image stimulus here.turn p t.next.link.slot)) }) = record {
          finished = each_updated (λ q (a : Place). q < length image.ports → old.finished q + 1 ≡ a.turn) old.place p (after_put here t.next.link.slot) (λ q_in. sound.finished p q_in) (λ q _. sound.finished q);
          paced = stands image fits banks until old.place sound.paced p port is (after_put here t.next.link.slot) (puts image fits banks until old.place sound.paced p port is t.next.i t.next.link t.next.sends.is t.next.sends.missing early t.next.ready);
          stamps = stamped_put image fits banks old.place old.word p t.next.i (4 * here.turn + code_of (image_value image stimulus here.turn p t.next.link.slot)) t.next.link sound.stamps mine begun t.next.sends.missing (stamp_in here.turn (image_value image stimulus here.turn p t.next.link.slot));
          codes = coded_put image fits banks stimulus old.word p t.next.i (here.turn % banks) here.turn t.next.link sound.codes mine begun;
        } in
        subst (IsSound image stimulus banks until) (sym t.is)
        (subst (λ s. IsSound image stimulus banks until (record old { place = updated old.place p (after_put here s); word = written old.word p t.next.i (here.turn % banks) (4 * here.turn + code_of (image_value image stimulus here.turn p s)) })) t.next.slot_is made)

    pub step_sound : (answer : CoreStep) (new : CoreState) → IsStep image stimulus banks until p port old answer new → IsSound image stimulus banks until new
    step_sound (Moved (Ask r)) new step = asks_sound r new step.1
    step_sound (Moved (Put slot)) new step = puts_sound slot new step.0 step.1
    step_sound (Moved (Take slot)) new step = takes_sound slot new step.0 step.1
    step_sound (Moved Tell) new step = tells_sound new step.0 step.1
    step_sound NotYet new step = subst (IsSound image stimulus banks until) (sym step.2) sound
    step_sound Done new step = subst (IsSound image stimulus banks until) (sym step.1) sound

  -- any steps keep soundness
  pub steps_sound : (order : List ℕ) (old : CoreState) (answers : List CoreStep) (new : CoreState) → IsSound image stimulus banks until old → AreSteps image stimulus banks until order old answers new → IsSound image stimulus banks until new
  unfolding AreSteps
  steps_sound [] old answers new sound steps = subst (IsSound image stimulus banks until) (sym steps.1) sound
  steps_sound (p ∷ order) old answers new sound steps =
      steps_sound order steps.3 steps.2 new (step_sound old sound p steps.0 steps.4 steps.1 steps.3 steps.6) steps.7
