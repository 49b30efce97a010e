-- A packed crossbar and a packed pass as contracts see them, and what its calls do with planes.
use Rattle.std.specs.Prelude.{◌≡◌, ◌≢◌, ℕ, ◌+◌, ◌<◌, ◌≤◌, false, Some, slice_get}
use Rattle.limits.specs.declared.TheConstants.{LANES}
use Rattle.lane_planes.specs.{Lanes.lane_of, declared.planes.Planes.Planes}
use Rattle.stim_text.specs.declared.lanes.Lanes.{Lanes}
use Rattle.image_defs.specs.{Frames.image_value, Places.IsPort, Places.Stands, declared.image.Image.Image, declared.image.LinkIn.LinkIn}
use Rattle.image_defs.specs.declared.image.{LinkOut.LinkOut, PortImage.PortImage}
use Rattle.event_defs.specs.Places.{IsSend, after_put, after_take, is_in, known_of}
use Rattle.slot_words.specs.packed.Words.{packed, packs, stamp_in, packed_stamp_of, stimulus_of, turns_of}
use Rattle.slot_words.specs.declared.pack_words.words.PackTaken.{PackTaken, TheVariants.NotYet, TheVariants.Value}
use Rattle.slot_words.specs.Layout.{send_word}
use Rattle.slot_words.specs.Passes as words
pub use Rattle.slot_words.specs.Passes.{AreFirstPasses, CanTake, CanTell, IsFirstPass, IsKeyOf, IsMade, IsOf, one_step}

abbrev pub BarView : Type 0
BarView = words.WordsView Lanes

abbrev pub PackPassView : Type 0
PackPassView = words.PassView Lanes

-- what holds of each pass
abbrev pub IsFit : PackPassView → Type 0
IsFit = words.IsFit packs

-- its turn is one of the run's
abbrev pub IsRunning : PackPassView → Type 0
IsRunning pass = pass.place.turn ≤ turns_of pass.image pass.feed

-- the planes have in each lane what the image has for the lane's stimulus in this turn, port and slot
abbrev pub AreValues : Image → Lanes → ℕ → ℕ → ℕ → Planes → Type 0
AreValues image lanes turn p slot planes = (l : ℕ) → l < LANES → lane_of planes l ≡ image_value image (stimulus_of image lanes l) turn p slot

-- ---- Put

-- the pass may put these planes in this slot: it sends there and hasn't put yet in this turn, knows of each reader
-- that it has finished the turn before, whose word is overwritten, and each lane's value is the image's
pub record CanPut (pass : PackPassView) (slot : ℕ) (planes : Planes) : Type 0 where
  pub i : ℕ
  pub link : LinkOut
  pub send : IsSend pass.image pass.port i link
  pub slot_is : link.slot ≡ slot
  pub missing : is_in slot pass.place.puts ≡ false
  pub ready : (r : ℕ) → Stands link.readers r → pass.place.turn ≤ known_of pass.place r + 1
  pub values : AreValues pass.image pass.feed pass.place.turn pass.port slot planes

-- it did: the word of the send has the turn's stamp and the planes
pub record IsPut (old : PackPassView) (slot : ℕ) (planes : Planes) (new : PackPassView) : Type 0 where
  pub each : (i : ℕ) (link : LinkOut) → IsSend old.image old.port i link → link.slot ≡ slot
      → new ≡ one_step old (after_put old.place slot) (send_word old.image 1 old.port i 0) (packed old.place.turn planes)

-- ---- Take

-- the word is one that the sender put in a turn before this one, or has not put yet
abbrev pub WasSentBefore : Image → Lanes → ℕ → ℕ → ℕ → ℕ → Type 0
WasSentBefore = words.WasSentBefore packs

-- what comes of reading this word: the sender's values of this turn exactly where it has the turn's stamp, and then
-- it is the word of this turn; else it is that of a turn before
abbrev pub IsFound : PackPassView → ℕ → ℕ → ℕ → ℕ → PackTaken → PackPassView → Type 0
IsFound old sender slot word number (Value planes) new =
    (packed_stamp_of number ≡ stamp_in old.place.turn) × (number ≡ packed old.place.turn planes) × AreValues old.image old.feed old.place.turn sender slot planes
    × (new ≡ one_step old (after_take old.place slot) word number)
IsFound old sender slot word number NotYet new =
    (packed_stamp_of number ≢ stamp_in old.place.turn) × WasSentBefore old.image old.feed sender slot old.place.turn number
    × (new ≡ one_step old old.place word number)

-- it read the word of the send that comes by this link
pub record HasLooked (old : PackPassView) (link : LinkIn) (taken : PackTaken) (new : PackPassView) : Type 0 where
  pub i : ℕ
  pub sent : LinkOut
  pub send : IsSend old.image link.sender i sent
  pub same_slot : sent.slot ≡ link.slot
  pub found : IsFound old link.sender link.slot (send_word old.image 1 link.sender i 0) new.last.number taken new

-- it looked at what it receives in this slot
pub record IsTake (old : PackPassView) (slot : ℕ) (taken : PackTaken) (new : PackPassView) : Type 0 where
  pub each : (port : PortImage) (j : ℕ) (link : LinkIn) → IsPort old.image old.port port → slice_get port.ins j ≡ Some link → link.slot ≡ slot
      → HasLooked old link taken new
