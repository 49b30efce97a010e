-- A crew that runs an image on lanes, as contracts see it.
use Rattle.std.specs.Prelude.{ℕ, ◌+◌}
use Rattle.image_defs.specs.declared.image.Image.{Image}
use Rattle.slot_words.specs.packed.Words.{turns_of}
use Rattle.stim_text.specs.declared.lanes.Lanes.{Lanes}

-- so many workers that step the packed ports of an image with lanes, all of which are in this turn
pub record PackCrew : Type 0 where
  pub image : Image
  pub lanes : Lanes
  pub workers : ℕ
  pub turn : ℕ

-- before the first turn
abbrev pub at_first : Image → Lanes → ℕ → PackCrew
at_first image lanes workers = record { image = image; lanes = lanes; workers = workers; turn = 1 }

-- behind the last one
abbrev pub at_end : Image → Lanes → ℕ → PackCrew
at_end image lanes workers = record { image = image; lanes = lanes; workers = workers; turn = turns_of image lanes + 1 }
