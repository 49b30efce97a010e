-- A running packed port and its next event.
use Rattle.std.proofs.Common.{List, ap, arith, false, inl, inr, length, subst, sym, ℕ, ◌<◌, ◌∙◌, ◌≡◌}
use Rattle.lane_planes.specs.declared.planes.Planes.{Planes}
use Rattle.image_defs.specs.declared.image.PortImage.{PortImage}
use Rattle.event_defs.specs.Places.{after_ask, after_put, after_take, is_in}
use Rattle.event_defs.specs.{Next.IsNext, declared.place.Place.Place}
use Rattle.event_defs.specs.declared.place.Event.TheVariants as event
use Rattle.crew_run.specs.declared.stepper.Step.{Step, TheVariants.Done, TheVariants.Moved, TheVariants.NotYet}
use Rattle.list_laws.proofs.Members.{member_at}
use Rattle.slot_words.specs.packed.Passes.{AreValues, HasLooked, IsFit, IsPut, IsTake, PackPassView, WasSentBefore, one_step}
use Rattle.slot_words.specs.{Layout.progress_word, packed.Words.HasPlanes, packed.Words.packed, packed.Words.turns_of}
use Rattle.slot_words.specs.declared.pack_words.words.PackTaken.{PackTaken}
use Rattle.port_run.proofs.lemmas.NextLemmas.{asked_in}
use Rattle.pack_walk.specs.Placed.{CanPut, CanTake, HasPut, HasTaken, IsNextOf, IsNextValue, IsReceiving, IsSending, PlacedPack, at_start, lane_action, value_in}
use Rattle.port_walk.specs.declared.upcoming.Upcoming.{Upcoming}
use Rattle.port_walk.specs.declared.upcoming.Upcoming.TheVariants as action
use Rattle.slot_words.specs.packed.Passes as pass
use Rattle.slot_words.specs.declared.pack_words.words.PackTaken.TheVariants as taken
use Rattle.pack_run.specs.Steps.{Asks, IsStepOf, Looks, word_at}
use Rattle.pack_run.specs.{Pairs.AreBegun, Pairs.placed, code.Steps.IsAnswer, code.Steps.IsNextAction, code.Steps.IsUpcoming}

-- before the first event the port is at the place of the pass
pub placed_first : (old : PackPassView) (port : PlacedPack) → AreBegun old port → port ≡ placed old
placed_first old port begun =
    begun.port_is ∙ ap {A = Place} {B = PlacedPack} (λ (x : Place). record (at_start old.image old.feed old.port) { turn = x.turn; puts = x.puts; takes = x.takes }) (sym begun.place_is)

-- what the port says comes next in the first lane comes next
next_in : (port_image : PortImage) (old : PackPassView) (next : Upcoming) → IsNext port_image old.place 1 (turns_of old.image old.feed) (value_in (placed old) 0 old.port) (lane_action (value_in (placed old) 0 old.port) next) → IsNextAction port_image old next
next_in port_image old (action.Ask reader) is = is
next_in port_image old (action.Put slot) is = (is.0, is.1)
next_in port_image old (action.Take slot) is = is
next_in port_image old action.Tell is = is
next_in port_image old action.Done is = is

pub upcoming : (old : PackPassView) (port : PlacedPack) (known : List ℕ) (next : Upcoming) → port ≡ placed old → known ≡ old.place.known → IsFit old → IsNextOf port known next → IsUpcoming old next
upcoming old port known next port_is known_is fit is =
    let port_image = member_at old.image.ports old.port fit.inside in
    let here : IsNextOf (placed old) old.place.known next = subst (λ k. IsNextOf (placed old) k next) known_is (subst (λ p. IsNextOf p known next) port_is is) in
    record { fit = fit; port_image = port_image.0; is = port_image.1; next = next_in port_image.0 old next (here.each 0 (omega arith) port_image.0 port_image.1) }

-- ---- Ask

module _ (old : PackPassView) (reader : ℕ) (next : IsUpcoming old (action.Ask reader)) where
  pub reader_there : reader < length old.image.ports
  reader_there = asked_in old.image next.fit.runs.image_fits old.port next.port_image next.is old.place 1 reader next.next.1

  pub asked_step : (new : PackPassView) (finished turn : ℕ) → new ≡ one_step old (after_ask old.place reader finished) (progress_word reader) finished → turn ≡ new.place.turn
      → (answer : Step) → IsAnswer finished turn answer → IsStepOf old answer new
  asked_step new finished turn is turn_is = answered where
    last : new.last.number ≡ finished
    last = ap (λ (x : PackPassView). x.last.number) is

    asks : Asks next.port_image old new reader
    asks = record { next = next.next.1; is = subst (λ n. new ≡ one_step old (after_ask old.place reader n) (progress_word reader) n) (sym last) is }

    same_turn : turn ≡ old.place.turn
    same_turn = turn_is ∙ ap (λ (x : PackPassView). x.place.turn) is

    answered : (answer : Step) → IsAnswer finished turn answer → IsStepOf old answer new
    answered Moved enough = (event.Ask reader, record { port_image = next.port_image; is = next.is; early = next.next.0; makes = record { asks = asks; enough = let l = last in let t = same_turn in omega arith } })
    answered NotYet less = record { port_image = next.port_image; is = next.is; early = next.next.0; waits = inl (record { reader = reader; asks = asks; less = let l = last in let t = same_turn in omega arith }) }
    answered Done none = absurd none

-- ---- Put

module _ (old : PackPassView) (slot : ℕ) (next : IsUpcoming old (action.Put slot)) where
  sending : IsSending (placed old) next.next.1.i next.next.1.link
  sending = record { early = next.next.0; port_image = next.port_image; is = next.is; next = next.next.1.sends }

  pub may_put : (port : PlacedPack) → port ≡ placed old → CanPut port
  may_put port port_is = subst CanPut (sym port_is) (record { i = next.next.1.i; link = next.next.1.link; sending = sending })

  -- the values that the port has next are those of the image
  pub put_values : (port : PlacedPack) (values : Planes) → port ≡ placed old → IsNextValue port values → AreValues old.image old.feed old.place.turn old.port slot values
  put_values port values port_is is =
      let here : IsNextValue (placed old) values = subst (λ p. IsNextValue p values) port_is is in
      subst (λ s. AreValues old.image old.feed old.place.turn old.port s values) next.next.1.slot_is (here.each next.next.1.i next.next.1.link sending)

  pub can_put : (values : Planes) → AreValues old.image old.feed old.place.turn old.port slot values → pass.CanPut old slot values
  can_put values are = record {
    i = next.next.1.i;
    link = next.next.1.link;
    send = record { port = next.port_image; is = next.is; link_is = next.next.1.sends.is };
    slot_is = next.next.1.slot_is;
    missing = subst (λ s. is_in s old.place.puts ≡ false) next.next.1.slot_is next.next.1.sends.missing;
    ready = next.next.1.ready;
    values = are;
  }

  module _ (values : Planes) (are : AreValues old.image old.feed old.place.turn old.port slot values) (new : PackPassView) (put : IsPut old slot values new) where
    put_is : new ≡ one_step old (after_put old.place slot) (word_at old old.port next.next.1.i) (packed old.place.turn values)
    put_is = put.each next.next.1.i next.next.1.link (record { port = next.port_image; is = next.is; link_is = next.next.1.sends.is }) next.next.1.slot_is

    pub put_step : IsStepOf old Moved new
    put_step = (event.Put slot, record { port_image = next.port_image; is = next.is; early = next.next.0; makes = record { next = next.next.1; planes = values; values = are; is = put_is } })

    pub put_placed : (port port' : PlacedPack) → port ≡ placed old → HasPut port port' → port' ≡ placed new
    put_placed port port' port_is has =
        let here : HasPut (placed old) port' = subst (λ p. HasPut p port') port_is has in
        here.each next.next.1.i next.next.1.link sending
        ∙ (ap (λ s. placed (one_step old (after_put old.place s) (word_at old old.port next.next.1.i) (packed old.place.turn values))) next.next.1.slot_is ∙ sym (ap placed put_is))

-- ---- Take

module _ (old : PackPassView) (slot : ℕ) (next : IsUpcoming old (action.Take slot)) where
  receiving : IsReceiving (placed old) next.next.1.j next.next.1.link
  receiving = record { early = next.next.0; port_image = next.port_image; is = next.is; next = next.next.1.receives }

  pub can_take : pass.CanTake old slot
  can_take = record {
    port = next.port_image;
    is = next.is;
    j = next.next.1.j;
    link = next.next.1.link;
    receives = next.next.1.receives.is;
    slot_is = next.next.1.slot_is;
    missing = subst (λ s. is_in s old.place.takes ≡ false) next.next.1.slot_is next.next.1.receives.missing;
  }

  module _ (new : PackPassView) (t : PackTaken) (took : IsTake old slot t new) where
    looked : HasLooked old next.next.1.link t new
    looked = took.each next.port_image next.next.1.j next.next.1.link next.is next.next.1.receives.is next.next.1.slot_is

    abbrev looks : (t : PackTaken) (l : HasLooked old next.next.1.link t new) (place : Place) → new ≡ one_step old place (word_at old next.next.1.link.sender l.i) new.last.number → Looks next.port_image old new slot place
    looks t l place is = record { next = next.next.1; i = l.i; source = record { sent = l.sent; send = l.send; same_slot = l.same_slot }; is = is }

    module _ (values : Planes) (is : t ≡ taken.Value values) where
      found : HasLooked old next.next.1.link (taken.Value values) new
      found = subst (λ t. HasLooked old next.next.1.link t new) is looked

      took_is : new ≡ one_step old (after_take old.place next.next.1.link.slot) (word_at old next.next.1.link.sender found.i) new.last.number
      took_is = found.found.3

      pub took_step : IsStepOf old Moved new
      took_step = (
        event.Take slot,
        record {
          port_image = next.port_image;
          is = next.is;
          early = next.next.0;
          makes = record {
            looks = looks (taken.Value values) found (after_take old.place slot) (took_is ∙ ap (λ s. one_step old (after_take old.place s) (word_at old next.next.1.link.sender found.i) new.last.number) next.next.1.slot_is);
            now = found.found.0;
            found = subst (λ s. HasPlanes old.image old.feed next.next.1.link.sender s old.place.turn new.last.number) next.next.1.slot_is
                (record { planes = values; is = found.found.1; values = found.found.2 });
          };
        },
      )

      pub may_take : (port : PlacedPack) → port ≡ placed old → CanTake port values
      may_take port port_is = subst (λ p. CanTake p values) (sym port_is) (record { j = next.next.1.j; link = next.next.1.link; receiving = receiving; values_are = found.found.2 })

      pub took_placed : (port port' : PlacedPack) → port ≡ placed old → HasTaken port port' → port' ≡ placed new
      took_placed port port' port_is has =
          let here : HasTaken (placed old) port' = subst (λ p. HasTaken p port') port_is has in
          here.each next.next.1.j next.next.1.link receiving ∙ sym (ap placed took_is)

    module _ (is : t ≡ taken.NotYet) where
      missed : HasLooked old next.next.1.link taken.NotYet new
      missed = subst (λ t. HasLooked old next.next.1.link t new) is looked

      pub missed_step : IsStepOf old NotYet new
      missed_step = record {
        port_image = next.port_image;
        is = next.is;
        early = next.next.0;
        waits = inr (record {
          slot = slot;
          looks = looks taken.NotYet missed old.place missed.found.2;
          other = missed.found.0;
          before = subst (λ s. WasSentBefore old.image old.feed next.next.1.link.sender s old.place.turn new.last.number) next.next.1.slot_is missed.found.1;
        });
      }

      pub missed_placed : (port : PlacedPack) → port ≡ placed old → port ≡ placed new
      missed_placed port port_is = port_is ∙ sym (ap placed missed.found.2)
