-- What a step of a running packed port does: the next event of its place, by the number that it finds or leaves in
-- one word. It is one event in all lanes.
use Rattle.std.specs.Prelude.{ℕ, ◌+◌, ◌<◌, ◌≡◌, ◌≢◌, ◌≤◌, ◌⊎◌}
use Rattle.lane_planes.specs.declared.planes.Planes.{Planes}
use Rattle.image_defs.specs.{Places.IsPort, declared.image.PortImage.PortImage}
use Rattle.event_defs.specs.Next.{AsksNext, PutsNext, TakesNext, TellsNext}
use Rattle.event_defs.specs.Places.{after_ask, after_put, after_take, after_tell}
use Rattle.event_defs.specs.declared.place.Event.TheVariants.{Ask, Put, Take, Tell}
use Rattle.event_defs.specs.declared.place.{Event.Event, Place.Place}
use Rattle.crew_run.specs.declared.stepper.Step.{Step, TheVariants.Done, TheVariants.Moved, TheVariants.NotYet}
use Rattle.slot_words.specs.packed.Passes.{AreValues, IsRunning, PackPassView, WasSentBefore, one_step}
use Rattle.slot_words.specs.packed.Words.{HasPlanes, packed, stamp_in, packed_stamp_of}
use Rattle.slot_words.specs.Layout.{progress_word, send_word}
use Rattle.port_run.specs.Steps.{IsSource}
use Rattle.pack_run.specs.Pairs.{HasMadeAll}

-- the word of send number i of port p
abbrev pub word_at : PackPassView → ℕ → ℕ → ℕ
word_at pass p i = send_word pass.image 1 p i 0

-- ---- one event

module _ (port_image : PortImage) (old new : PackPassView) where
  -- it looked how many turns a reader has finished, and knows it
  pub record Asks (reader : ℕ) : Type 0 where
    pub next : AsksNext port_image old.place 1 reader
    pub is : new ≡ one_step old (after_ask old.place reader new.last.number) (progress_word reader) new.last.number

  -- it wrote the turn's stamp and, in each lane, the image's value
  pub record Puts (slot : ℕ) : Type 0 where
    pub next : PutsNext port_image old.place 1 slot
    pub planes : Planes
    pub values : AreValues old.image old.feed old.place.turn old.port slot planes
    pub is : new ≡ one_step old (after_put old.place slot) (word_at old old.port next.i) (packed old.place.turn planes)

  -- it looked at the word of what it receives, and stands there afterwards
  pub record Looks (slot : ℕ) (place : Place) : Type 0 where
    pub next : TakesNext port_image old.place slot
    pub i : ℕ
    pub source : IsSource old.image next.link i
    pub is : new ≡ one_step old place (word_at old next.link.sender i) new.last.number

  -- it wrote the turn that it has finished, and began the next one
  pub record Tells : Type 0 where
    pub next : TellsNext port_image old.place
    pub is : new ≡ one_step old (after_tell old.place) (progress_word old.port) old.place.turn

  -- the reader has finished enough turns
  pub record HasAsked (reader : ℕ) : Type 0 where
    pub asks : Asks reader
    pub enough : old.place.turn ≤ new.last.number + 1

  -- the word had the turn's stamp, and so in each lane the sender's value of this turn
  pub record HasTaken (slot : ℕ) : Type 0 where
    pub looks : Looks slot (after_take old.place slot)
    pub now : packed_stamp_of new.last.number ≡ stamp_in old.place.turn
    pub found : HasPlanes old.image old.feed looks.next.link.sender slot old.place.turn new.last.number

  -- this event was made
  abbrev pub Makes : Event → Type 0
  Makes (Ask reader) = HasAsked reader
  Makes (Put slot) = Puts slot
  Makes (Take slot) = HasTaken slot
  Makes Tell = Tells

  -- the reader has finished too few turns
  pub record AskWaits : Type 0 where
    pub reader : ℕ
    pub asks : Asks reader
    pub less : new.last.number + 1 < old.place.turn

  -- the word had another stamp, and so was of a turn before
  pub record TakeWaits : Type 0 where
    pub slot : ℕ
    pub looks : Looks slot old.place
    pub other : packed_stamp_of new.last.number ≢ stamp_in old.place.turn
    pub before : WasSentBefore old.image old.feed looks.next.link.sender slot old.place.turn new.last.number

-- ---- steps

-- one event leads from the first to the second, in a turn of the run
pub record IsEvent (old : PackPassView) (event : Event) (new : PackPassView) : Type 0 where
  pub port_image : PortImage
  pub is : IsPort old.image old.port port_image
  pub early : IsRunning old
  pub makes : Makes port_image old new event

-- its next event is an Ask or a Take that has to wait, and one look was made, in a turn of the run
pub record IsWait (old new : PackPassView) : Type 0 where
  pub port_image : PortImage
  pub is : IsPort old.image old.port port_image
  pub early : IsRunning old
  pub waits : AskWaits port_image old new ⊎ TakeWaits port_image old new

-- what comes of a step
abbrev pub IsStepOf : PackPassView → Step → PackPassView → Type 0
IsStepOf old Moved new = (event : Event) × IsEvent old event new
IsStepOf old NotYet new = IsWait old new
IsStepOf old Done new = HasMadeAll old × (new ≡ old)

-- ---- what has to wait

module _ (port_image : PortImage) (pass : PackPassView) where
  -- its next event is an Ask, and the reader's progress word, which was looked at last, told too few turns
  pub record AskIsShort : Type 0 where
    pub reader : ℕ
    pub next : AsksNext port_image pass.place 1 reader
    pub word : pass.last.word ≡ progress_word reader
    pub less : pass.last.number + 1 < pass.place.turn

  -- its next event is a Take, and its word, which was looked at last, had another stamp than the turn's
  pub record TakeIsShort : Type 0 where
    pub slot : ℕ
    pub next : TakesNext port_image pass.place slot
    pub i : ℕ
    pub source : IsSource pass.image next.link i
    pub word : pass.last.word ≡ word_at pass next.link.sender i
    pub other : packed_stamp_of pass.last.number ≢ stamp_in pass.place.turn

-- the last look was that of its next event, which has to wait by what it found, in a turn of the run
pub record IsShort (pass : PackPassView) : Type 0 where
  pub port_image : PortImage
  pub is : IsPort pass.image pass.port port_image
  pub early : IsRunning pass
  pub short : AskIsShort port_image pass ⊎ TakeIsShort port_image pass
