-- What a word of a plain send holds: the turn and the code of the image's value, as 4 * turn + code.
use Rattle.std.specs.Prelude.{◌≡◌, ◌==◌, Bool, ℕ, ◌+◌, ◌*◌}
use Rattle.limits.specs.declared.TheConstants.{MAX_BANKS}
use Rattle.logic_four.specs.Values.{code_of}
use Rattle.net_defs.specs.{Time.turn_count, Valid.IsValidStimulus, declared.stimulus.Stimulus.Stimulus}
use Rattle.image_defs.specs.{Frames.image_value, Steps.timing_of, declared.image.Image.Image}
use Rattle.event_defs.specs.Steps.{stamp_of}
use Rattle.slot_words.specs.declared.{crossbar.Plain.Plain, feed.Feed.Ghosts}

-- the image may be fed with any valid stimulus
abbrev pub Fits : Image → Stimulus → Type 0
Fits image stimulus = IsValidStimulus stimulus

-- the number of turns of a run
abbrev pub turns_of : Image → Stimulus → ℕ
turns_of image stimulus = turn_count (timing_of image) stimulus

-- the number has the turn, and the code of the image's value in this port, slot and turn
abbrev pub IsSent : Image → Stimulus → ℕ → ℕ → ℕ → ℕ → Type 0
IsSent image stimulus p slot turn number = number ≡ 4 * turn + code_of (image_value image stimulus turn p slot)

-- the number's turn is this one
abbrev pub is_of : ℕ → ℕ → Bool
is_of number turn = stamp_of number == turn

-- plain words, as the rule speaks of words
abbrev pub plain : Ghosts Plain Stimulus
plain = record { runs = Fits; turns = turns_of; sent = IsSent; of_turn = is_of; most_banks = MAX_BANKS }
