-- Which events a step may have been, and what is short after it.
use Rattle.std.proofs.Common.{arith, get_or-set_other, get_or-set_same, inl, inr, length, refl, subst, sym, ℕ, ◌%◌, ◌*◌, ◌+◌, ◌<◌, ◌≡◌, ◌≤◌}
use Rattle.logic_four.specs.Values.{code_of}
use Rattle.image_defs.specs.{Places.IsPort, WellFormed.IsWellFormed, declared.image.Image.Image, declared.image.PortImage.PortImage}
use Rattle.event_defs.proofs.lemmas.{NextLemmas.one_next, PaceLemmas.reader_in, PaceLemmas.same_port, WordLemmas.stamp_in}
use Rattle.event_defs.specs.Places.{after_ask, after_put, after_take, after_tell}
use Rattle.event_defs.specs.declared.place.Event.TheVariants.{Ask, Put, Take, Tell}
use Rattle.event_defs.specs.{Next.AsksNext, Next.IsNext, Row.send_number, Row.word_place, Steps.stamp_of, declared.place.Action.Action}
use Rattle.event_defs.specs.declared.place.{Event.Event, Place.Place}
use Rattle.event_defs.specs.declared.place.Action.TheVariants as action
use Rattle.slot_words.specs.{Layout.progress_word, Layout.send_word, plain.Passes.IsFit, plain.Passes.PassView, plain.Passes.one_step}
use Rattle.port_run.specs.Steps.{AskWaits, IsEvent, IsShort, IsWait, Makes, TakeWaits, value_there, word_now}

-- the words of sends stand behind those of ports
pub past_ports : (image : Image) (banks p i b r : ℕ) → r < length image.ports → send_word image banks p i b ≡ progress_word r → ⊥
past_ports image banks p i b r inside same =
    let n : ℕ = word_place banks (send_number image p i) b in
    let e : length image.ports + n ≡ r = same in
    absurd (omega arith)

-- whoever a port asks is a port
pub asked_in : (image : Image) → IsWellFormed image → (p : ℕ) (port_image : PortImage) → IsPort image p port_image → (place : Place) (banks reader : ℕ) → AsksNext port_image place banks reader → reader < length image.ports
asked_in image fits p port_image is place banks reader asks = reader_in image fits p asks.i reader asks.link (record { port = port_image; is = is; link_is = asks.sends.is }) asks.reads

-- a reader that is known to have finished too few turns is asked again
pub asks_again : (port_image : PortImage) (place : Place) (banks reader n : ℕ) → reader < length place.known → AsksNext port_image place banks reader → n + banks < place.turn → AsksNext port_image (after_ask place reader n) banks reader
asks_again port_image place banks reader n room asks less = record {
  i = asks.i;
  link = asks.link;
  sends = asks.sends;
  reads = asks.reads;
  lags = subst (λ k. k + banks < place.turn) (sym (get_or-set_same place.known reader n 0 room)) less;
  least = λ r reads low. subst (λ k. place.turn ≤ k + banks) (sym (get_or-set_other place.known reader r n 0 (λ e. absurd (omega arith)))) (asks.least r reads low);
}

-- ---- one next event

abbrev action_of : PassView → Event → Action
action_of pass (Ask reader) = action.Ask reader
action_of pass (Put slot) = action.Put slot (value_there pass slot)
action_of pass (Take slot) = action.Take slot
action_of pass Tell = action.Tell

module _ (until : ℕ) (old new : PassView) (fit : IsFit old) where
  abbrev Next : PortImage → Action → Type 0
  Next port_image a = IsNext port_image old.place old.banks until (value_there old) a

  makes_next : (port_image : PortImage) (e : Event) → old.place.turn ≤ until → Makes port_image old new e → Next port_image (action_of old e)
  makes_next port_image (Ask reader) early makes = (early, makes.asks.next)
  makes_next port_image (Put slot) early makes = (early, makes.next, refl)
  makes_next port_image (Take slot) early makes = (early, makes.looks.next)
  makes_next port_image Tell early makes = (early, makes.next)

  one : (port_image other : PortImage) (a b : Action) → IsPort old.image old.port port_image → IsPort old.image old.port other → Next port_image a → Next other b → a ≡ b
  one port_image other a b is other_is next other_next =
      one_next old.image fit.runs.image_fits old.port port_image is old.place old.banks until (value_there old) a b next
      (subst (λ s. Next s b) (same_port old.image old.port other port_image other_is is) other_next)

  ask_not_waits : (e : Event) (port_image other : PortImage) → IsPort old.image old.port port_image → IsPort old.image old.port other → old.place.turn ≤ until → Makes port_image old new e → AskWaits other old new → ⊥
  ask_not_waits (Ask reader) port_image other is other_is early makes waits = let enough = makes.enough in let less = waits.less in absurd (omega arith)
  ask_not_waits (Put slot) port_image other is other_is early makes waits = let e : action.Put slot (value_there old slot) ≡ action.Ask waits.reader = one port_image other (action.Put slot (value_there old slot)) (action.Ask waits.reader) is other_is (makes_next port_image (Put slot) early makes) (early, waits.asks.next) in cc
  ask_not_waits (Take slot) port_image other is other_is early makes waits = let e : action.Take slot ≡ action.Ask waits.reader = one port_image other (action.Take slot) (action.Ask waits.reader) is other_is (makes_next port_image (Take slot) early makes) (early, waits.asks.next) in cc
  ask_not_waits Tell port_image other is other_is early makes waits = let e : action.Tell ≡ action.Ask waits.reader = one port_image other (action.Tell) (action.Ask waits.reader) is other_is (makes_next port_image Tell early makes) (early, waits.asks.next) in cc

  take_not_waits : (e : Event) (port_image other : PortImage) → IsPort old.image old.port port_image → IsPort old.image old.port other → old.place.turn ≤ until → Makes port_image old new e → TakeWaits other old new → ⊥
  take_not_waits (Ask reader) port_image other is other_is early makes waits = let e : action.Ask reader ≡ action.Take waits.slot = one port_image other (action.Ask reader) (action.Take waits.slot) is other_is (makes_next port_image (Ask reader) early makes) (early, waits.looks.next) in cc
  take_not_waits (Put slot) port_image other is other_is early makes waits = let e : action.Put slot (value_there old slot) ≡ action.Take waits.slot = one port_image other (action.Put slot (value_there old slot)) (action.Take waits.slot) is other_is (makes_next port_image (Put slot) early makes) (early, waits.looks.next) in cc
  take_not_waits (Take slot) port_image other is other_is early makes waits = let now = makes.now in let less = waits.less in absurd (omega arith)
  take_not_waits Tell port_image other is other_is early makes waits = let e : action.Tell ≡ action.Take waits.slot = one port_image other (action.Tell) (action.Take waits.slot) is other_is (makes_next port_image Tell early makes) (early, waits.looks.next) in cc

  -- what has to wait is no event
  pub event_not_wait : (e : Event) → IsEvent until old e new → IsWait until old new → ⊥
  event_not_wait e made wait = elim wait.waits [
    | inl ask ↦ ask_not_waits e made.port_image wait.port_image made.is wait.is made.early made.makes ask
    | inr take ↦ take_not_waits e made.port_image wait.port_image made.is wait.is made.early made.makes take
  ]

-- ---- what is short after a look that has to wait

module _ (old : PassView) (fit : IsFit old) (port_image : PortImage) (is : IsPort old.image old.port port_image) where
  pub asked_again : (reader n : ℕ) → AsksNext port_image old.place old.banks reader → n + old.banks < old.place.turn → AsksNext port_image (after_ask old.place reader n) old.banks reader
  asked_again reader n asks = asks_again port_image old.place old.banks reader n (omega (arith, fit.wide, asked_in old.image fit.runs.image_fits old.port port_image is old.place old.banks reader asks)) asks

  ask_short : (until : ℕ) (new : PassView) → old.place.turn ≤ until → AskWaits port_image old new → IsShort until new
  ask_short until new early waits = subst (IsShort until) (sym waits.asks.is) (record {
    port_image = port_image;
    is = is;
    early = early;
    short = inl (record { reader = waits.reader; next = asked_again waits.reader new.last.number waits.asks.next waits.less; word = refl; less = waits.less });
  })

  take_short : (until : ℕ) (new : PassView) → old.place.turn ≤ until → TakeWaits port_image old new → IsShort until new
  take_short until new early waits = subst (IsShort until) (sym waits.looks.is) (record {
    port_image = port_image;
    is = is;
    early = early;
    short = inr (record { slot = waits.slot; next = waits.looks.next; i = waits.looks.i; source = record { sent = waits.looks.source.sent; send = waits.looks.source.send; same_slot = waits.looks.source.same_slot }; word = refl; less = waits.less });
  })

pub wait_short : (until : ℕ) (old new : PassView) → IsFit old → IsWait until old new → IsShort until new
wait_short until old new fit wait = elim wait.waits [
  | inl ask ↦ ask_short old fit wait.port_image wait.is until new wait.early ask
  | inr take ↦ take_short old fit wait.port_image wait.is until new wait.early take
]

-- ---- nothing is short after an event

module _ (until : ℕ) (old : PassView) (fit : IsFit old) where
  -- a step that looked at a word of a send, or wrote one
  sent_not_short : (place : Place) (p i n : ℕ) → place.turn ≡ old.place.turn → old.place.turn ≤ stamp_of n → IsShort until (one_step old place (word_now old p i) n) → ⊥
  sent_not_short place p i n turn stamp short = elim short.short [
    | inl ask ↦ past_ports old.image old.banks p i (old.place.turn % old.banks) ask.reader (asked_in old.image fit.runs.image_fits old.port short.port_image short.is place old.banks ask.reader ask.next) ask.word
    | inr take ↦ let less = take.less in absurd (omega arith)
  ]

  -- a step that looked at a progress word, or wrote one
  told_not_short : (place : Place) (r n : ℕ) → r < length old.image.ports → place.turn ≤ n + old.banks → IsShort until (one_step old place (progress_word r) n) → ⊥
  told_not_short place r n inside enough short = elim short.short [
    | inl ask ↦ let less = ask.less in absurd (omega arith)
    | inr take ↦ past_ports old.image old.banks take.next.link.sender take.i (place.turn % old.banks) r inside (sym take.word)
  ]

  module _ (new : PassView) (port_image : PortImage) (is : IsPort old.image old.port port_image) where
    makes_not_short : (e : Event) → Makes port_image old new e → IsShort until new → ⊥
    makes_not_short (Ask reader) makes short =
        told_not_short (after_ask old.place reader new.last.number) reader new.last.number (asked_in old.image fit.runs.image_fits old.port port_image is old.place old.banks reader makes.asks.next) makes.enough (subst (IsShort until) makes.asks.is short)
    makes_not_short (Put slot) makes short =
        let stamp = stamp_in old.place.turn (value_there old slot) in
        sent_not_short (after_put old.place slot) old.port makes.next.i (4 * old.place.turn + code_of (value_there old slot)) refl (subst (λ k. old.place.turn ≤ k) (sym stamp) (omega arith)) (subst (IsShort until) makes.is short)
    makes_not_short (Take slot) makes short =
        sent_not_short (after_take old.place slot) makes.looks.next.link.sender makes.looks.i new.last.number refl (subst (λ k. old.place.turn ≤ k) (sym makes.now) (omega arith)) (subst (IsShort until) makes.looks.is short)
    makes_not_short Tell makes short =
        let some = fit.runs.some in
        told_not_short (after_tell old.place) old.port old.place.turn fit.inside (omega arith) (subst (IsShort until) makes.is short)

pub event_not_short : (until : ℕ) (old new : PassView) → IsFit old → (e : Event) → IsEvent until old e new → IsShort until new → ⊥
event_not_short until old new fit e made = makes_not_short until old fit new made.port_image made.is e made.makes
