-- The parts of a well-formed image that need no look at links.
use Rattle.std.specs.Prelude.{◌≡◌, ◌↔◌, ℕ, ◌+◌, ◌≤◌, List, length, Some, slice_get}
use Rattle.limits.specs.declared.TheConstants.{MAX_SLOTS, MAX_UNITS, MAX_PORTS}
use Rattle.image_defs.specs.{declared.image.PortImage.PortImage, declared.image.Image.Image, WellFormed.IsHost}

-- the numbers of an image are within the limits of this project's profile
pub record HasNumbers (image : Image) : Type 0 where
  pub slots : image.slots ≤ MAX_SLOTS
  pub units : (1 ≤ image.units) × (image.units ≤ MAX_UNITS)
  pub some_ports : 1 ≤ length image.ports
  pub most_ports : length image.ports ≤ MAX_PORTS

-- the last port is the host, and no other is
abbrev pub IsHostLast : List PortImage → Type 0
IsHostLast ports = (p : ℕ) (port : PortImage) → slice_get ports p ≡ Some port → IsHost port.work ↔ (p + 1 ≡ length ports)
