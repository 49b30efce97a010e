-- The steps of a core: one event of one port at a time, on the places of all ports and the words that they
-- share.
use Rattle.std.specs.Prelude.{◌≡◌, ℕ, zero, suc, ◌+◌, ◌*◌, ◌/◌, ◌%◌, ◌==◌, ◌<◌, ◌≤◌, ◌⊎◌, if◌then◌else◌, List, [], ◌∷◌, length}
use Rattle.std.specs.List.{range_with_len}
use Rattle.logic_four.specs.Values.{code_of}
use Rattle.net_defs.specs.declared.stimulus.Stimulus.{Stimulus}
use Rattle.image_defs.specs.declared.image.{LinkIn.LinkIn, LinkOut.LinkOut, PortImage.PortImage, Image.Image}
use Rattle.image_defs.specs.{Places.IsPort, Places.host_of, Frames.image_value}
use Rattle.event_defs.specs.declared.place.Event.TheVariants.{Ask, Put, Take, Tell}
use Rattle.event_defs.specs.Places.{IsSend, start, after_ask, after_put, after_take, after_tell}
use Rattle.event_defs.specs.Next.{ReceivesNext, AsksNext, PutsNext, TellsNext}
use Rattle.event_defs.specs.declared.place.{CoreStep.CoreStep, CoreStep.TheVariants.Moved, CoreStep.TheVariants.NotYet, CoreStep.TheVariants.Done, Event.Event}
use Rattle.event_defs.specs.declared.place.Place.{Place}

-- ---- states

-- the places of all ports, the progress word of each port, and the words of each send, which is given by
-- its port and its number there, bank by bank
pub record CoreState : Type 0 where
  pub place : ℕ → Place
  pub finished : ℕ → ℕ
  pub word : ℕ → ℕ → ℕ → ℕ

-- a core before its first event: every word is 0
abbrev pub first_state : ℕ → CoreState
first_state ports = record { place = λ p. start ports; finished = λ p. 0; word = λ p i b. 0 }

-- a function that is changed at one number
abbrev pub updated : {X : Type 0} → (ℕ → X) → ℕ → X → ℕ → X
updated {X} f p x q = if q == p then x else f q

-- the words after bank b of send number i of port p has been written
abbrev pub written : (ℕ → ℕ → ℕ → ℕ) → ℕ → ℕ → ℕ → ℕ → ℕ → ℕ → ℕ → ℕ
written word p i b x = updated word p (updated (word p) i (updated (word p i) b x))

-- the turn whose value a word holds, and 0 where it holds none
abbrev pub stamp_of : ℕ → ℕ
stamp_of word = word / 4

-- ---- the state with one more event of port p

module _ (image : Image) (banks : ℕ) (p : ℕ) (port : PortImage) (old : CoreState) where
  abbrev here : Place
  here = old.place p

  -- the next event is a Take, and this is the word that it reads: its sender's, of this turn's bank
  pub record Reads (slot x : ℕ) : Type 0 where
    pub j : ℕ
    pub link : LinkIn
    pub slot_is : link.slot ≡ slot
    pub receives : ReceivesNext port here.puts here.takes j link
    pub i : ℕ
    pub sent : LinkOut
    pub send : IsSend image link.sender i sent
    pub same_slot : sent.slot ≡ slot
    pub word : x ≡ old.word link.sender i (here.turn % banks)

  -- the reader has finished enough turns: the port knows now how many
  pub record Asks (reader : ℕ) (new : CoreState) : Type 0 where
    pub next : AsksNext port here banks reader
    pub moves : here.turn ≤ old.finished reader + banks
    pub is : new ≡ record old { place = updated old.place p (after_ask here reader (old.finished reader)) }

  -- this turn's bank gets the turn and the code of the value
  pub record Puts (stimulus : Stimulus) (slot : ℕ) (new : CoreState) : Type 0 where
    pub next : PutsNext port here banks slot
    pub is : new ≡ record old {
      place = updated old.place p (after_put here slot);
      word = written old.word p next.i (here.turn % banks) (4 * here.turn + code_of (image_value image stimulus here.turn p slot));
    }

  -- the word is of this turn
  pub record Takes (slot : ℕ) (new : CoreState) : Type 0 where
    pub x : ℕ
    pub reads : Reads slot x
    pub moves : stamp_of x ≡ here.turn
    pub is : new ≡ record old { place = updated old.place p (after_take here slot) }

  -- the progress word gets the turn, and the next one begins
  pub record Tells (new : CoreState) : Type 0 where
    pub next : TellsNext port here
    pub is : new ≡ record old { place = updated old.place p (after_tell here); finished = updated old.finished p here.turn }

  -- the reader has finished too few turns
  pub record AskWaits (reader : ℕ) : Type 0 where
    pub next : AsksNext port here banks reader
    pub less : old.finished reader + banks < here.turn

  -- the word is of a turn before
  pub record TakeWaits (slot : ℕ) : Type 0 where
    pub x : ℕ
    pub reads : Reads slot x
    pub less : stamp_of x < here.turn

  -- the next event is one that must wait
  abbrev pub Waits : Type 0
  Waits = ((reader : ℕ) × AskWaits reader) ⊎ ((slot : ℕ) × TakeWaits slot)

  -- this event of the port makes this state
  abbrev pub Moves : Stimulus → Event → CoreState → Type 0
  Moves stimulus (Ask reader) new = Asks reader new
  Moves stimulus (Put slot) new = Puts stimulus slot new
  Moves stimulus (Take slot) new = Takes slot new
  Moves stimulus Tell new = Tells new

-- ---- steps

module _ (image : Image) (stimulus : Stimulus) (banks until : ℕ) where
  -- one step of port p, what comes of it, and the state after it
  abbrev pub IsStep : ℕ → PortImage → CoreState → CoreStep → CoreState → Type 0
  IsStep p port old (Moved event) new = ((old.place p).turn ≤ until) × Moves image banks p port old stimulus event new
  IsStep p port old NotYet new = ((old.place p).turn ≤ until) × Waits image banks p port old × (new ≡ old)
  IsStep p port old Done new = ((old.place p).turn ≡ until + 1) × (new ≡ old)

  -- one step of each of these ports, in their order, with what came of each
  unfoldable pub AreSteps : List ℕ → CoreState → List CoreStep → CoreState → Type 0
  AreSteps [] old answers new = (answers ≡ []) × (new ≡ old)
  AreSteps (p ∷ order) old answers new =
      (port : PortImage) × (answer : CoreStep) × (rest : List CoreStep) × (middle : CoreState)
      × IsPort image p port × (answers ≡ answer ∷ rest) × IsStep p port old answer middle × AreSteps order middle rest new

  -- what the first steps of these ports make
  abbrev pub AreFirstSteps : List ℕ → List CoreStep → CoreState → Type 0
  AreFirstSteps order answers new = AreSteps order (first_state (length image.ports)) answers new

  -- a round is one step of each port, in ascending order
  abbrev pub IsRound : CoreState → List CoreStep → CoreState → Type 0
  IsRound = AreSteps (range_with_len 0 (length image.ports))

  -- so many rounds, one after another
  unfoldable pub AreRounds : ℕ → CoreState → CoreState → Type 0
  AreRounds zero old new = new ≡ old
  AreRounds (suc n) old new = (answers : List CoreStep) × (middle : CoreState) × AreRounds n old middle × IsRound middle answers new

-- ---- ends

-- every port has finished its last turn
pub record AllDone (image : Image) (until : ℕ) (state : CoreState) : Type 0 where
  pub each : (p : ℕ) (port : PortImage) → IsPort image p port → (state.place p).turn ≡ until + 1

-- no port moves: each is done, or must wait at its next event
pub record AllIdle (image : Image) (banks until : ℕ) (state : CoreState) : Type 0 where
  pub each : (p : ℕ) (port : PortImage) → IsPort image p port → ((state.place p).turn ≡ until + 1) ⊎ Waits image banks p port state

-- the rows that are done: the cycles whose last turn the host has finished
abbrev pub rows_done : Image → CoreState → ℕ
rows_done image state = state.finished (host_of image) / image.units
