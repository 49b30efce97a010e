-- Images whose ports send and receive alike, whatever they compute.
use Rattle.std.specs.Prelude.{◌≡◌, ℕ, length}
use Rattle.image_defs.specs.{declared.image.PortImage.PortImage, declared.image.Image.Image, Places.IsPort}

-- port p of both sends and receives the same
pub record ArePortsAlike (one other : PortImage) : Type 0 where
  pub outs : one.outs ≡ other.outs
  pub ins : one.ins ≡ other.ins

pub record AreLinkedAlike (one other : Image) : Type 0 where
  pub units : one.units ≡ other.units
  pub count : length one.ports ≡ length other.ports
  pub ports : (p : ℕ) (port twin : PortImage) → IsPort one p port → IsPort other p twin → ArePortsAlike port twin
