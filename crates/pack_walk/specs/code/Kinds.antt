-- What only private functions and proofs cite: a packed port of any kind.
use Rattle.std.specs.Prelude.{◌≡◌, ℕ, Option, None, Some}
use Rattle.stim_text.specs.{declared.lanes.Lanes.Lanes, Lanes.longest}
use Rattle.image_defs.specs.{declared.image.Image.Image, Ports.at_first}
use Rattle.port_bank.specs.Packed.{PackPortView}
use Rattle.port_walk.specs.Kinds.{rows_of}
use Rattle.pack_walk.specs.declared.kind.PackKind.{PackKind, TheVariants.Logic, TheVariants.Array, TheVariants.Host}

-- how far it has come
abbrev pub view_in : PackKind → PackPortView
view_in (Logic port) = port
view_in (Array port) = port
view_in (Host host) = host

-- the host keeps the rows of the longest lane, and gives up none
abbrev pub rows_in : PackKind → Option (ℕ × ℕ)
rows_in (Logic port) = None
rows_in (Array port) = None
rows_in (Host host) = Some (longest host.stimulus, 0)

-- it is the port of this number before its first turn
pub record IsFirst (image : Image) (lanes : Lanes) (p : ℕ) (kind : PackKind) : Type 0 where
  pub view : view_in kind ≡ at_first image lanes p
  pub rows : rows_in kind ≡ rows_of image p (longest lanes, 0)
