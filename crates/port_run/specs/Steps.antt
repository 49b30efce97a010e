-- What a step of a running port does: the next event of its place, by the number that it finds or leaves in one
-- word.
use Rattle.std.specs.Prelude.{Bool, false, true, ℕ, ◌%◌, ◌*◌, ◌+◌, ◌<◌, ◌≡◌, ◌≤◌, ◌⊎◌}
use Rattle.logic_four.specs.{Values.code_of, declared.V4.V4}
use Rattle.image_defs.specs.{Frames.image_value, Places.IsPort, declared.image.Image.Image, declared.image.LinkIn.LinkIn, declared.image.LinkOut.LinkOut}
use Rattle.image_defs.specs.declared.image.PortImage.{PortImage}
use Rattle.event_defs.specs.Next.{AsksNext, PutsNext, TakesNext, TellsNext}
use Rattle.event_defs.specs.Places.{IsSend, after_ask, after_put, after_take, after_tell}
use Rattle.event_defs.specs.declared.place.Event.TheVariants.{Ask, Put, Take, Tell}
use Rattle.event_defs.specs.{Steps.stamp_of, declared.place.Event.Event, declared.place.Place.Place}
use Rattle.crew_run.specs.declared.stepper.Step.{Step, TheVariants.Done, TheVariants.Moved, TheVariants.NotYet}
use Rattle.slot_words.specs.{Layout.progress_word, Layout.send_word, plain.Passes.PassView, plain.Passes.one_step}
use Rattle.port_run.specs.Pairs.{HasMade}

-- what the image has in a slot of the pass's port in its turn
abbrev pub value_there : PassView → ℕ → V4
value_there pass slot = image_value pass.image pass.feed pass.place.turn pass.port slot

-- the word of a send in the turn of the pass
abbrev pub word_now : PassView → ℕ → ℕ → ℕ
word_now pass p i = send_word pass.image pass.banks p i (pass.place.turn % pass.banks)

-- the send that comes by a link to a port of the image
pub record IsSource (image : Image) (link : LinkIn) (i : ℕ) : Type 0 where
  pub sent : LinkOut
  pub send : IsSend image link.sender i sent
  pub same_slot : sent.slot ≡ link.slot

-- ---- one event

module _ (port_image : PortImage) (old new : PassView) where
  -- it looked how many turns a reader has finished, and knows it
  pub record Asks (reader : ℕ) : Type 0 where
    pub next : AsksNext port_image old.place old.banks reader
    pub is : new ≡ one_step old (after_ask old.place reader new.last.number) (progress_word reader) new.last.number

  -- it wrote the turn and the image's value
  pub record Puts (slot : ℕ) : Type 0 where
    pub next : PutsNext port_image old.place old.banks slot
    pub is : new ≡ one_step old (after_put old.place slot) (word_now old old.port next.i) (4 * old.place.turn + code_of (value_there old slot))

  -- it looked at this turn's word of what it receives, and stands there afterwards
  pub record Looks (slot : ℕ) (place : Place) : Type 0 where
    pub next : TakesNext port_image old.place slot
    pub i : ℕ
    pub source : IsSource old.image next.link i
    pub is : new ≡ one_step old place (word_now old next.link.sender i) new.last.number

  -- it wrote the turn that it has finished, and began the next one
  pub record Tells : Type 0 where
    pub next : TellsNext port_image old.place
    pub is : new ≡ one_step old (after_tell old.place) (progress_word old.port) old.place.turn

  -- the reader has finished enough turns
  pub record HasAsked (reader : ℕ) : Type 0 where
    pub asks : Asks reader
    pub enough : old.place.turn ≤ new.last.number + old.banks

  -- the word was of this turn
  pub record HasTaken (slot : ℕ) : Type 0 where
    pub looks : Looks slot (after_take old.place slot)
    pub now : stamp_of new.last.number ≡ old.place.turn

  -- this event was made
  abbrev pub Makes : Event → Type 0
  Makes (Ask reader) = HasAsked reader
  Makes (Put slot) = Puts slot
  Makes (Take slot) = HasTaken slot
  Makes Tell = Tells

  -- the reader has finished too few turns
  pub record AskWaits : Type 0 where
    pub reader : ℕ
    pub asks : Asks reader
    pub less : new.last.number + old.banks < old.place.turn

  -- the word was of a turn before
  pub record TakeWaits : Type 0 where
    pub slot : ℕ
    pub looks : Looks slot old.place
    pub less : stamp_of new.last.number < old.place.turn

-- ---- steps

-- one event leads from the first to the second, in a turn up to this last one
pub record IsEvent (until : ℕ) (old : PassView) (event : Event) (new : PassView) : Type 0 where
  pub port_image : PortImage
  pub is : IsPort old.image old.port port_image
  pub early : old.place.turn ≤ until
  pub makes : Makes port_image old new event

-- its next event is an Ask or a Take that has to wait, and one look was made, in a turn up to this last one
pub record IsWait (until : ℕ) (old new : PassView) : Type 0 where
  pub port_image : PortImage
  pub is : IsPort old.image old.port port_image
  pub early : old.place.turn ≤ until
  pub waits : AskWaits port_image old new ⊎ TakeWaits port_image old new

-- what comes of a step in a block that has this last turn
abbrev pub IsStepOf : ℕ → PassView → Step → PassView → Type 0
IsStepOf until old Moved new = (event : Event) × IsEvent until old event new
IsStepOf until old NotYet new = IsWait until old new
IsStepOf until old Done new = HasMade until old × (new ≡ old)

-- the event ends the turn
abbrev pub ends_turn : Event → Bool
ends_turn (Ask reader) = false
ends_turn (Put slot) = false
ends_turn (Take slot) = false
ends_turn Tell = true

-- ---- what has to wait

module _ (port_image : PortImage) (pass : PassView) where
  -- its next event is an Ask, and the reader's progress word, which was looked at last, told too few turns
  pub record AskIsShort : Type 0 where
    pub reader : ℕ
    pub next : AsksNext port_image pass.place pass.banks reader
    pub word : pass.last.word ≡ progress_word reader
    pub less : pass.last.number + pass.banks < pass.place.turn

  -- its next event is a Take, and its word, which was looked at last, was of a turn before
  pub record TakeIsShort : Type 0 where
    pub slot : ℕ
    pub next : TakesNext port_image pass.place slot
    pub i : ℕ
    pub source : IsSource pass.image next.link i
    pub word : pass.last.word ≡ word_now pass next.link.sender i
    pub less : stamp_of pass.last.number < pass.place.turn

-- the last look was that of its next event, which has to wait by what it found, in a turn up to this last one
pub record IsShort (until : ℕ) (pass : PassView) : Type 0 where
  pub port_image : PortImage
  pub is : IsPort pass.image pass.port port_image
  pub early : pass.place.turn ≤ until
  pub short : AskIsShort port_image pass ⊎ TakeIsShort port_image pass
