-- A core as contracts see it, and what its steps do.
use Rattle.std.specs.Prelude.{List, length, slice_index_or, ℕ, ◌*◌, ◌+◌, ◌≡◌, ◌≤◌}
use Rattle.logic_four.specs.Values.{code_of}
use Rattle.net_defs.specs.{Time.turn_count, declared.stimulus.Stimulus.Stimulus}
use Rattle.image_defs.specs.{Frames.image_value, Places.IsPort, Places.Stands, Steps.timing_of, declared.image.Image.Image, declared.image.PortImage.PortImage}
use Rattle.event_defs.specs.Steps.{AllDone, CoreState, IsRound, IsStep, Reads, first_state, rows_done}
use Rattle.event_defs.specs.{Counts.events_left, Counts.moved_in, Counts.moves, Next.PutsNext, Places.start, Row.word_in, Sound.IsSound}
use Rattle.event_defs.specs.declared.place.{CoreStep.CoreStep, CoreStep.TheVariants.Moved, Event.TheVariants.Put, Event.TheVariants.Take, Place.Place}

-- a core of an image and a stimulus, with so many banks: the places of its ports, how many turns each has told
-- to be finished, and the words of all sends in one row
pub record CoreView : Type 0 where
  pub image : Image
  pub stimulus : Stimulus
  pub banks : ℕ
  pub places : List Place
  pub finished : List ℕ
  pub words : List ℕ

-- the number of its turns
abbrev pub turns_of : CoreView → ℕ
turns_of view = turn_count (timing_of view.image) view.stimulus

-- its state
abbrev pub state_of : CoreView → CoreState
state_of view = record {
  place = λ p. slice_index_or view.places p (start (length view.image.ports));
  finished = λ p. slice_index_or view.finished p 0;
  word = word_in view.image view.banks view.words;
}

-- a core before its first event
pub record IsStart (image : Image) (stimulus : Stimulus) (banks : ℕ) (view : CoreView) : Type 0 where
  pub image_is : view.image ≡ image
  pub stimulus_is : view.stimulus ≡ stimulus
  pub banks_are : view.banks ≡ banks
  pub state : state_of view ≡ first_state (length image.ports)

-- its state is sound
abbrev pub IsSoundCore : CoreView → Type 0
IsSoundCore view = IsSound view.image view.stimulus view.banks (turns_of view) (state_of view)

-- the places and words alone differ
abbrev pub IsSameCore : CoreView → CoreView → Type 0
IsSameCore old new = new ≡ record old { places = new.places; finished = new.finished; words = new.words }

-- one step of port p, with what came of it; where it didn't move nothing changed
pub record Applies (old : CoreView) (p : ℕ) (answer : CoreStep) (new : CoreView) : Type 0 where
  pub same : IsSameCore old new
  pub step : (port : PortImage) → IsPort old.image p port → IsStep old.image old.stimulus old.banks (turns_of old) p port (state_of old) answer (state_of new)
  pub still : moves answer ≡ 0 → new ≡ old

-- what port p's next Take reads in this slot is its sender's value of the port's turn
pub record ReadsThisTurn (view : CoreView) (p : ℕ) (port : PortImage) (slot : ℕ) : Type 0 where
  pub x : ℕ
  pub reads : Reads view.image view.banks p port (state_of view) slot x
  pub value : x ≡ 4 * ((state_of view).place p).turn + code_of (image_value view.image view.stimulus ((state_of view).place p).turn reads.link.sender slot)

-- a Take that moved read its sender's value of the port's turn
pub record TakesThisTurn (old : CoreView) (p : ℕ) (answer : CoreStep) : Type 0 where
  pub each : (port : PortImage) (slot : ℕ) → IsPort old.image p port → answer ≡ Moved (Take slot) → ReadsThisTurn old p port slot

-- a Put came when each reader had finished the turn whose value it overwrote, as many turns before as there are
-- banks
pub record SparesReaders (old : CoreView) (p : ℕ) (answer : CoreStep) : Type 0 where
  pub each : (port : PortImage) (slot r : ℕ) → IsPort old.image p port → answer ≡ Moved (Put slot)
      → (next : PutsNext port ((state_of old).place p) old.banks slot) → Stands next.link.readers r
      → ((state_of old).place p).turn ≤ (state_of old).finished r + old.banks

-- one step of each port, in ascending order, of which so many moved; where none did nothing changed
pub record IsRoundOf (old : CoreView) (moved : ℕ) (new : CoreView) : Type 0 where
  pub same : IsSameCore old new
  pub answers : List CoreStep
  pub round : IsRound old.image old.stimulus old.banks (turns_of old) (state_of old) answers (state_of new)
  pub moved_are : moved_in answers ≡ moved
  pub still : moved ≡ 0 → new ≡ old

-- all ports have finished their last turn
abbrev pub AreDone : CoreView → Type 0
AreDone view = AllDone view.image (turns_of view) (state_of view)

-- no more than so many events are left
abbrev pub left_of : CoreView → ℕ
left_of view = events_left view.image view.banks (turns_of view) (state_of view).place

-- the rows that are done
abbrev pub rows_of : CoreView → ℕ
rows_of view = rows_done view.image (state_of view)
