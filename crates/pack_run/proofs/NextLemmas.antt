-- Which events a step may have been, and what is short after it.
use Rattle.std.proofs.Common.{ap, arith, inl, inr, length, refl, subst, sym, ℕ, ◌+◌, ◌<◌, ◌∙◌, ◌≡◌, ◌≤◌}
use Rattle.logic_four.specs.declared.V4.{V4}
use Rattle.image_defs.specs.{Frames.image_value, Places.IsPort, declared.image.PortImage.PortImage}
use Rattle.event_defs.proofs.lemmas.{NextLemmas.one_next, PaceLemmas.same_port}
use Rattle.event_defs.specs.Places.{after_ask, after_put, after_take, after_tell}
use Rattle.event_defs.specs.declared.place.Event.TheVariants.{Ask, Put, Take, Tell}
use Rattle.event_defs.specs.{Next.IsNext, declared.place.Action.Action, declared.place.Event.Event, declared.place.Place.Place}
use Rattle.event_defs.specs.declared.place.Action.TheVariants as action
use Rattle.slot_words.specs.packed.Passes.{IsFit, IsRunning, PackPassView, one_step}
use Rattle.slot_words.specs.packed.Words.{packed, stamp_in, packed_stamp_of, stimulus_of, turns_of}
use Rattle.slot_words.specs.{Layout.progress_word, packed.Laws.packed_stamp}
use Rattle.port_run.proofs.lemmas.NextLemmas.{asked_in, asks_again, past_ports}
use Rattle.pack_run.specs.Steps.{AskWaits, IsEvent, IsShort, IsWait, Makes, TakeWaits, word_at}

-- ---- one next event

-- the value in the first lane, by which events are told apart
abbrev value_first : PackPassView → ℕ → V4
value_first pass slot = image_value pass.image (stimulus_of pass.image pass.feed 0) pass.place.turn pass.port slot

abbrev action_of : PackPassView → Event → Action
action_of pass (Ask reader) = action.Ask reader
action_of pass (Put slot) = action.Put slot (value_first pass slot)
action_of pass (Take slot) = action.Take slot
action_of pass Tell = action.Tell

module _ (old new : PackPassView) (fit : IsFit old) where
  abbrev Next : PortImage → Action → Type 0
  Next port_image a = IsNext port_image old.place 1 (turns_of old.image old.feed) (value_first old) a

  makes_next : (port_image : PortImage) (e : Event) → IsRunning old → Makes port_image old new e → Next port_image (action_of old e)
  makes_next port_image (Ask reader) early makes = (early, makes.asks.next)
  makes_next port_image (Put slot) early makes = (early, makes.next, refl)
  makes_next port_image (Take slot) early makes = (early, makes.looks.next)
  makes_next port_image Tell early makes = (early, makes.next)

  one : (port_image other : PortImage) (a b : Action) → IsPort old.image old.port port_image → IsPort old.image old.port other → Next port_image a → Next other b → a ≡ b
  one port_image other a b is other_is next other_next =
      one_next old.image fit.runs.image_fits old.port port_image is old.place 1 (turns_of old.image old.feed) (value_first old) a b next
      (subst (λ s. Next s b) (same_port old.image old.port other port_image other_is is) other_next)

  ask_not_waits : (e : Event) (port_image other : PortImage) → IsPort old.image old.port port_image → IsPort old.image old.port other → IsRunning old → Makes port_image old new e → AskWaits other old new → ⊥
  ask_not_waits (Ask reader) port_image other is other_is early makes waits = let enough = makes.enough in let less = waits.less in absurd (omega arith)
  ask_not_waits (Put slot) port_image other is other_is early makes waits = let e : action.Put slot (value_first old slot) ≡ action.Ask waits.reader = one port_image other (action.Put slot (value_first old slot)) (action.Ask waits.reader) is other_is (makes_next port_image (Put slot) early makes) (early, waits.asks.next) in cc
  ask_not_waits (Take slot) port_image other is other_is early makes waits = let e : action.Take slot ≡ action.Ask waits.reader = one port_image other (action.Take slot) (action.Ask waits.reader) is other_is (makes_next port_image (Take slot) early makes) (early, waits.asks.next) in cc
  ask_not_waits Tell port_image other is other_is early makes waits = let e : action.Tell ≡ action.Ask waits.reader = one port_image other action.Tell (action.Ask waits.reader) is other_is (makes_next port_image Tell early makes) (early, waits.asks.next) in cc

  take_not_waits : (e : Event) (port_image other : PortImage) → IsPort old.image old.port port_image → IsPort old.image old.port other → IsRunning old → Makes port_image old new e → TakeWaits other old new → ⊥
  take_not_waits (Ask reader) port_image other is other_is early makes waits = let e : action.Ask reader ≡ action.Take waits.slot = one port_image other (action.Ask reader) (action.Take waits.slot) is other_is (makes_next port_image (Ask reader) early makes) (early, waits.looks.next) in cc
  take_not_waits (Put slot) port_image other is other_is early makes waits = let e : action.Put slot (value_first old slot) ≡ action.Take waits.slot = one port_image other (action.Put slot (value_first old slot)) (action.Take waits.slot) is other_is (makes_next port_image (Put slot) early makes) (early, waits.looks.next) in cc
  take_not_waits (Take slot) port_image other is other_is early makes waits = waits.other makes.now
  take_not_waits Tell port_image other is other_is early makes waits = let e : action.Tell ≡ action.Take waits.slot = one port_image other action.Tell (action.Take waits.slot) is other_is (makes_next port_image Tell early makes) (early, waits.looks.next) in cc

  -- what has to wait is no event
  pub event_not_wait : (e : Event) → IsEvent old e new → IsWait old new → ⊥
  event_not_wait e made wait = elim wait.waits [
    | inl ask ↦ ask_not_waits e made.port_image wait.port_image made.is wait.is made.early made.makes ask
    | inr take ↦ take_not_waits e made.port_image wait.port_image made.is wait.is made.early made.makes take
  ]

-- ---- what is short after a look that has to wait

module _ (old : PackPassView) (fit : IsFit old) (port_image : PortImage) (is : IsPort old.image old.port port_image) where
  ask_short : (new : PackPassView) → IsRunning old → AskWaits port_image old new → IsShort new
  ask_short new early waits = subst IsShort (sym waits.asks.is) (record {
    port_image = port_image;
    is = is;
    early = early;
    short = inl (record { reader = waits.reader; next = asks_again port_image old.place 1 waits.reader new.last.number (omega (arith, fit.wide, asked_in old.image fit.runs.image_fits old.port port_image is old.place 1 waits.reader waits.asks.next)) waits.asks.next waits.less; word = refl; less = waits.less });
  })

  take_short : (new : PackPassView) → IsRunning old → TakeWaits port_image old new → IsShort new
  take_short new early waits = subst IsShort (sym waits.looks.is) (record {
    port_image = port_image;
    is = is;
    early = early;
    short = inr (record { slot = waits.slot; next = waits.looks.next; i = waits.looks.i; source = record { sent = waits.looks.source.sent; send = waits.looks.source.send; same_slot = waits.looks.source.same_slot }; word = refl; other = waits.other });
  })

pub wait_short : (old new : PackPassView) → IsFit old → IsWait old new → IsShort new
wait_short old new fit wait = elim wait.waits [
  | inl ask ↦ ask_short old fit wait.port_image wait.is new wait.early ask
  | inr take ↦ take_short old fit wait.port_image wait.is new wait.early take
]

-- ---- nothing is short after an event

module _ (old : PackPassView) (fit : IsFit old) where
  -- a step that looked at a word of a send, or wrote one
  sent_not_short : (place : Place) (p i n : ℕ) → place.turn ≡ old.place.turn → packed_stamp_of n ≡ stamp_in old.place.turn → IsShort (one_step old place (word_at old p i) n) → ⊥
  sent_not_short place p i n turn stamp short = elim short.short [
    | inl ask ↦ past_ports old.image 1 p i 0 ask.reader (asked_in old.image fit.runs.image_fits old.port short.port_image short.is place 1 ask.reader ask.next) ask.word
    | inr take ↦ take.other (stamp ∙ sym (ap stamp_in turn))
  ]

  -- a step that looked at a progress word, or wrote one
  told_not_short : (place : Place) (r n : ℕ) → r < length old.image.ports → place.turn ≤ n + 1 → IsShort (one_step old place (progress_word r) n) → ⊥
  told_not_short place r n inside enough short = elim short.short [
    | inl ask ↦ let less = ask.less in absurd (omega arith)
    | inr take ↦ past_ports old.image 1 take.next.link.sender take.i 0 r inside (sym take.word)
  ]

  module _ (new : PackPassView) (port_image : PortImage) (is : IsPort old.image old.port port_image) where
    makes_not_short : (e : Event) → Makes port_image old new e → IsShort new → ⊥
    makes_not_short (Ask reader) makes short =
        told_not_short (after_ask old.place reader new.last.number) reader new.last.number (asked_in old.image fit.runs.image_fits old.port port_image is old.place 1 reader makes.asks.next) makes.enough (subst IsShort makes.asks.is short)
    makes_not_short (Put slot) makes short =
        sent_not_short (after_put old.place slot) old.port makes.next.i (packed old.place.turn makes.planes) refl (packed_stamp old.place.turn makes.planes) (subst IsShort makes.is short)
    makes_not_short (Take slot) makes short =
        sent_not_short (after_take old.place slot) makes.looks.next.link.sender makes.looks.i new.last.number refl makes.now (subst IsShort makes.looks.is short)
    makes_not_short Tell makes short =
        told_not_short (after_tell old.place) old.port old.place.turn fit.inside (omega arith) (subst IsShort makes.is short)

pub event_not_short : (old new : PackPassView) → IsFit old → (e : Event) → IsEvent old e new → IsShort new → ⊥
event_not_short old new fit e made = makes_not_short old fit new made.port_image made.is e made.makes
