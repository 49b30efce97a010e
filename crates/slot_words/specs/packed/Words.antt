-- What a word of a packed send holds.
use Rattle.std.specs.Prelude.{◌≡◌, ◌==◌, Bool, ℕ, ◌+◌, ◌*◌, ◌%◌, ◌<◌, ◌^◌}
use Rattle.limits.specs.declared.TheConstants.{LANES}
use Rattle.lane_planes.specs.{Lanes.lane_of, declared.planes.Planes.Planes}
use Rattle.net_defs.specs.declared.stimulus.Stimulus.{Stimulus}
use Rattle.stim_text.specs.{Lanes.AreLanes, Lanes.lane_stimulus, Lanes.longest, declared.lanes.Lanes.Lanes}
use Rattle.image_defs.specs.{Frames.image_value, declared.image.Image.Image}
use Rattle.slot_words.specs.declared.{feed.Feed.Ghosts, pack_words.bar.Packed.Packed}

-- the stamp of a turn and that of a word, of which 16 are told apart
abbrev pub stamp_in : ℕ → ℕ
stamp_in turn = turn % 16

abbrev pub packed_stamp_of : ℕ → ℕ
packed_stamp_of word = word % 16

-- the word of planes in a turn: the stamp in 4 bits, and a bit a lane for each of the planes
abbrev pub packed : ℕ → Planes → ℕ
packed turn planes = stamp_in turn + 16 * planes.low + 2 ^ (LANES + 4) * planes.high

-- ---- lanes

-- the image may be fed with lanes of its columns
abbrev pub Fits : Image → Lanes → Type 0
Fits image lanes = AreLanes image.columns lanes

-- the number of turns of a run: those of the longest lane
abbrev pub turns_of : Image → Lanes → ℕ
turns_of image lanes = image.units * longest lanes

-- the stimulus of a lane, from 0 on
abbrev pub stimulus_of : Image → Lanes → ℕ → Stimulus
stimulus_of image lanes = lane_stimulus image.columns lanes

-- the word has planes with the value of each lane in this turn, port and slot
pub record HasPlanes (image : Image) (lanes : Lanes) (p slot turn word : ℕ) : Type 0 where
  pub planes : Planes
  pub is : word ≡ packed turn planes
  pub values : (l : ℕ) → l < LANES → lane_of planes l ≡ image_value image (stimulus_of image lanes l) turn p slot

-- the word has the stamp of this turn
abbrev pub is_of : ℕ → ℕ → Bool
is_of word turn = packed_stamp_of word == stamp_in turn

-- packed words, of one bank, as the rule speaks of words
abbrev pub packs : Ghosts Packed Lanes
packs = record { runs = Fits; turns = turns_of; sent = HasPlanes; of_turn = is_of; most_banks = 1 }
