-- Sound states: how far the ports may be from one another, and what their words hold. It has three parts.
-- The first speaks of places alone, the second of places and of the turns that the words name, the third of
-- what the words say of the values at these turns. So no value stands in the first two, and no place in the
-- third.
use Rattle.std.specs.Prelude.{◌≡◌, ◌≢◌, ℕ, ◌+◌, ◌%◌, ◌<◌, ◌≤◌, true, [], length, AllPairs}
use Rattle.logic_four.specs.{declared.V4.V4, Values.code_of}
use Rattle.net_defs.specs.declared.stimulus.Stimulus.{Stimulus}
use Rattle.image_defs.specs.Places.{Each, Stands, IsPort, in_slots, out_slots}
use Rattle.image_defs.specs.{declared.image.LinkOut.LinkOut, declared.image.PortImage.PortImage, declared.image.Image.Image, Frames.image_value}
use Rattle.event_defs.specs.Places.{IsSend, is_in, known_of, latest}
use Rattle.event_defs.specs.{declared.place.Place.Place, Steps.CoreState, Steps.stamp_of}

-- ---- places

-- a place of this port: in its turn it has put only what it sends and taken only what it receives, each at
-- most once, and it does nothing after its last turn
pub record IsPlaceOf (port : PortImage) (until : ℕ) (place : Place) : Type 0 where
  pub begun : 1 ≤ place.turn
  pub ends : place.turn ≤ until + 1
  pub puts_sent : Each (Stands (out_slots port.outs)) place.puts
  pub takes_received : Each (Stands (in_slots port.ins)) place.takes
  pub puts_once : AllPairs (λ s t. s ≢ t) place.puts
  pub takes_once : AllPairs (λ s t. s ≢ t) place.takes
  pub rests : place.turn ≡ until + 1 → (place.puts ≡ []) × (place.takes ≡ [])

-- what the sender has put in a slot, the reader has taken but for at most so many turns; and what the reader
-- has taken, the sender has put
pub record KeepsPace (banks slot : ℕ) (sender reader : Place) : Type 0 where
  pub behind : reader.turn ≤ latest sender slot + 1
  pub ahead : latest sender slot + 1 ≤ reader.turn + banks
  pub took : is_in slot reader.takes ≡ true → reader.turn ≤ latest sender slot

-- the places of all ports: what a port knows of another is so, and each send keeps pace with its readers
pub record ArePaced (image : Image) (banks until : ℕ) (place : ℕ → Place) : Type 0 where
  pub places : (p : ℕ) (port : PortImage) → IsPort image p port → IsPlaceOf port until (place p)
  pub wide : (p : ℕ) → p < length image.ports → length (place p).known ≡ length image.ports
  pub known : (p q : ℕ) → p < length image.ports → q < length image.ports → known_of (place p) q + 1 ≤ (place q).turn
  pub pace : (p i r : ℕ) (link : LinkOut) → IsSend image p i link → Stands link.readers r → KeepsPace banks link.slot (place p) (place r)

-- ---- turns of words

-- the words of a send, bank by bank, which was put up to this turn: each of the last turns, as many as there
-- are banks, stands in its bank, and a bank that has had no turn is 0
pub record AreStamps (banks latest : ℕ) (word : ℕ → ℕ) : Type 0 where
  pub written : (k : ℕ) → 1 ≤ k → k ≤ latest → latest < k + banks → stamp_of (word (k % banks)) ≡ k
  pub fresh : (k : ℕ) → latest < k → k ≤ banks → stamp_of (word (k % banks)) ≡ 0

-- the words of all sends
pub record AreStamped (image : Image) (banks : ℕ) (place : ℕ → Place) (word : ℕ → ℕ → ℕ → ℕ) : Type 0 where
  pub each : (p i : ℕ) (link : LinkOut) → IsSend image p i link → AreStamps banks (latest (place p) link.slot) (word p i)

-- ---- codes of words

-- a word that names a turn has the code of the value at that turn, and one that names none is 0
pub record IsCoded (value : ℕ → V4) (word : ℕ) : Type 0 where
  pub coded : 1 ≤ stamp_of word → word % 4 ≡ code_of (value (stamp_of word))
  pub fresh : stamp_of word ≡ 0 → word ≡ 0

-- the words of all sends
pub record AreCoded (image : Image) (stimulus : Stimulus) (banks : ℕ) (word : ℕ → ℕ → ℕ → ℕ) : Type 0 where
  pub each : (p i b : ℕ) (link : LinkOut) → IsSend image p i link → b < banks → IsCoded (λ k. image_value image stimulus k p link.slot) (word p i b)

-- ---- states

-- a sound state; a progress word holds the turns before its port's
pub record IsSound (image : Image) (stimulus : Stimulus) (banks until : ℕ) (state : CoreState) : Type 0 where
  pub finished : (p : ℕ) → p < length image.ports → state.finished p + 1 ≡ (state.place p).turn
  pub paced : ArePaced image banks until state.place
  pub stamps : AreStamped image banks state.place state.word
  pub codes : AreCoded image stimulus banks state.word
