-- The kinds of port before their first turn.
use Rattle.std.proofs.Common.{◌≡◌, ◌∙◌, inl, inr, ℕ, ◌+◌, ◌<◌, List, length, None, Some, get_or, ap, sym, refl, arith}
use Rattle.std.proofs.lemmas.{Bool.Decides.eqb_tells, Option.slice_get_read}
use Rattle.image_defs.specs.{declared.image.Image.Image, declared.image.PortImage.PortImage, Places.IsPort, Places.host_of}
use Rattle.image_defs.specs.WellFormed.{IsWellFormed, IsHost}
use Rattle.port_walk.specs.Kinds.{rows_of}

-- a port that was looked up
pub port_image_there : (image : Image) (p : ℕ) (port_image : PortImage) (ports : List PortImage) → p < length image.ports → ports ≡ image.ports → port_image ≡ get_or ports p port_image → IsPort image p port_image
port_image_there image p port_image ports within same is = slice_get_read image.ports (length image.ports) p port_image refl within (is ∙ ap (λ xs. get_or xs p port_image) same)

-- the last port is the host
pub host_number : (image : Image) (p : ℕ) → p + 1 ≡ length image.ports → host_of image ≡ p
host_number image p last = omega (arith, last)

module _ (image : Image) (p : ℕ) (rows : ℕ × ℕ) where
  pub has_rows : p + 1 ≡ length image.ports → rows_of image p rows ≡ Some rows
  has_rows last = elim (eqb_tells (p + 1) (length image.ports)) [
    | inl h ↦ rw h.0 refl
    | inr h ↦ absurd (h.1 last)
  ]

  pub has_none : (p + 1 ≡ length image.ports → ⊥) → rows_of image p rows ≡ None
  has_none other = elim (eqb_tells (p + 1) (length image.ports)) [
    | inl h ↦ absurd (other h.1)
    | inr h ↦ rw h.0 refl
  ]

module _ (image : Image) (good : IsWellFormed image) (p : ℕ) (port_image : PortImage) (is : IsPort image p port_image) (rows : ℕ × ℕ) where
  pub host_last : IsHost port_image.work → p + 1 ≡ length image.ports
  host_last host = (good.host p port_image is).0 host

  pub rows_first : IsHost port_image.work → Some rows ≡ rows_of image p rows
  rows_first host = sym (has_rows image p rows (host_last host))

  pub none_first : (IsHost port_image.work → ⊥) → None ≡ rows_of image p rows
  none_first other = sym (has_none image p rows (λ last. other ((good.host p port_image is).1 last)))
