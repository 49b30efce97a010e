-- What a packed port with its place keeps: its last turn is that of the longest lane, and the host has room for all rows.
use Rattle.std.specs.Prelude.{◌≡◌, ◌*◌}
use Rattle.stim_text.specs.Lanes.{longest}
use Rattle.image_defs.specs.WellFormed.{IsWellFormed}
use Rattle.port_walk.specs.Kinds.{rows_of}
use Rattle.pack_walk.specs.{declared.placed.PackPlaced.TheInside.Inside, Placed.PlacedPack, Placed.placed}

abbrev pub view_of : Inside → PlacedPack
view_of a = placed a.walk

pub record IsKept (a : Inside) : Type 0 where
  pub image : IsWellFormed a.walk.stand.image
  pub until : a.walk.stand.until ≡ a.walk.stand.image.units * longest a.walk.stimulus
  pub rows : a.walk.rows ≡ rows_of a.walk.stand.image a.walk.stand.port (longest a.walk.stimulus, 0)
