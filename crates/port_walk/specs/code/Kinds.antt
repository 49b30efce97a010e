-- Beside specs/Kinds.antt, what only private functions and proofs cite.
use Rattle.std.specs.Prelude.{◌≡◌, ℕ}
use Rattle.net_defs.specs.declared.stimulus.Stimulus.{Stimulus}
use Rattle.image_defs.specs.{declared.image.Image.Image, Ports.at_first}
use Rattle.port_walk.specs.{declared.kind.Kind.Kind, Kinds.view_in, Kinds.rows_in, Kinds.rows_of}

-- it is the port of this number before its first turn, and as the host it has this window
pub record IsFirst (image : Image) (stimulus : Stimulus) (p window : ℕ) (kind : Kind) : Type 0 where
  pub view : view_in kind ≡ at_first image stimulus p
  pub rows : rows_in kind ≡ rows_of image p (window, 0)
