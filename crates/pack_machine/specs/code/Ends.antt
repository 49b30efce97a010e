-- The host of a run that is over.
use Rattle.std.specs.Prelude.{◌+◌, ◌≡◌}
use Rattle.image_defs.specs.{Places.host_of, declared.image.Image.Image}
use Rattle.slot_words.specs.packed.{Passes.PackPassView, Words.turns_of}
use Rattle.stim_text.specs.declared.lanes.Lanes.{Lanes}

-- this is the host of a run of the image on lanes, which has made all turns
pub record IsHostAtEnd (image : Image) (lanes : Lanes) (run : PackPassView) : Type 0 where
  pub image_is : run.image ≡ image
  pub lanes_are : run.feed ≡ lanes
  pub port : run.port ≡ host_of run.image
  pub turn : run.place.turn ≡ turns_of image lanes + 1
