-- A crossbar and a pass as contracts see them, and what its calls do with values.
use Rattle.std.specs.Prelude.{◌≡◌, ℕ, ◌+◌, ◌*◌, ◌%◌, ◌<◌, ◌≤◌, false, Some, slice_get}
use Rattle.logic_four.specs.{Values.code_of, declared.V4.V4}
use Rattle.net_defs.specs.declared.stimulus.Stimulus.{Stimulus}
use Rattle.image_defs.specs.{Frames.image_value, Places.IsPort, Places.Stands, declared.image.LinkIn.LinkIn, declared.image.LinkOut.LinkOut}
use Rattle.image_defs.specs.declared.image.PortImage.{PortImage}
use Rattle.event_defs.specs.Places.{IsSend, after_put, after_take, is_in, known_of}
use Rattle.event_defs.specs.Steps.{stamp_of}
use Rattle.slot_words.specs.declared.crossbar.Taken.{Taken, TheVariants.NotYet, TheVariants.Value}
use Rattle.slot_words.specs.{Layout.send_word, plain.Words.plain, plain.Words.turns_of}
use Rattle.slot_words.specs.Passes as words
pub use Rattle.slot_words.specs.Passes.{AreFirstPasses, CanTake, CanTell, IsFirstPass, IsKeyOf, IsMade, IsOf, one_step}

abbrev pub CrossbarView : Type 0
CrossbarView = words.WordsView Stimulus

abbrev pub PassView : Type 0
PassView = words.PassView Stimulus

-- what holds of each pass
abbrev pub IsFit : PassView → Type 0
IsFit = words.IsFit plain

-- its turn is one of the run's
abbrev pub IsRunning : PassView → Type 0
IsRunning pass = pass.place.turn ≤ turns_of pass.image pass.feed

-- ---- Put

-- the pass may put this value in this slot: it sends there and hasn't put yet in this turn, knows of each reader
-- that it has finished the turn whose word is overwritten, and the value is the image's
pub record CanPut (pass : PassView) (slot : ℕ) (v : V4) : Type 0 where
  pub i : ℕ
  pub link : LinkOut
  pub send : IsSend pass.image pass.port i link
  pub slot_is : link.slot ≡ slot
  pub missing : is_in slot pass.place.puts ≡ false
  pub ready : (r : ℕ) → Stands link.readers r → pass.place.turn ≤ known_of pass.place r + pass.banks
  pub value : v ≡ image_value pass.image pass.feed pass.place.turn pass.port slot

-- it did: this turn's word of the send has the turn and the code of the value
pub record IsPut (old : PassView) (slot : ℕ) (v : V4) (new : PassView) : Type 0 where
  pub each : (i : ℕ) (link : LinkOut) → IsSend old.image old.port i link → link.slot ≡ slot
      → new ≡ one_step old (after_put old.place slot) (send_word old.image old.banks old.port i (old.place.turn % old.banks)) (4 * old.place.turn + code_of v)

-- ---- Take

-- what comes of reading this word: the sender's value of this turn where the word's turn is this one, and nothing
-- where it is one before
abbrev pub IsFound : PassView → ℕ → ℕ → ℕ → ℕ → Taken → PassView → Type 0
IsFound old sender slot word number (Value v) new =
    (stamp_of number ≡ old.place.turn) × (v ≡ image_value old.image old.feed old.place.turn sender slot)
    × (new ≡ one_step old (after_take old.place slot) word number)
IsFound old sender slot word number NotYet new = (stamp_of number < old.place.turn) × (new ≡ one_step old old.place word number)

-- it read this turn's word of the send that comes by this link
pub record HasLooked (old : PassView) (link : LinkIn) (taken : Taken) (new : PassView) : Type 0 where
  pub i : ℕ
  pub sent : LinkOut
  pub send : IsSend old.image link.sender i sent
  pub same_slot : sent.slot ≡ link.slot
  pub found : IsFound old link.sender link.slot (send_word old.image old.banks link.sender i (old.place.turn % old.banks)) new.last.number taken new

-- it looked at what it receives in this slot
pub record IsTake (old : PassView) (slot : ℕ) (taken : Taken) (new : PassView) : Type 0 where
  pub each : (port : PortImage) (j : ℕ) (link : LinkIn) → IsPort old.image old.port port → slice_get port.ins j ≡ Some link → link.slot ≡ slot
      → HasLooked old link taken new
