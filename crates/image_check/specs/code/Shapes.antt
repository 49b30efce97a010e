-- The slots of a port as lists of numbers, in which the check looks.
use Rattle.std.specs.Prelude.{◌≡◌, ℕ, List, length, Some, slice_get}
use Rattle.std.specs.List.Sorted.{IsStrictlyIncreasing}
use Rattle.image_defs.specs.Places.{Each, item_slots, in_slots, out_slots}
use Rattle.image_defs.specs.declared.image.PortImage.{PortImage}
use Rattle.image_check.specs.declared.shapes.Shape.{Shape}

-- the slots of the port's items, sends and receipts
pub record IsShapeOf (port : PortImage) (shape : Shape) : Type 0 where
  pub items : shape.items ≡ item_slots port.work
  pub outs : shape.outs ≡ out_slots port.outs
  pub ins : shape.ins ≡ in_slots port.ins

-- the slots of a port rise, and the readers of each send
pub record IsRising (port : PortImage) : Type 0 where
  pub items : IsStrictlyIncreasing (item_slots port.work)
  pub outs : IsStrictlyIncreasing (out_slots port.outs)
  pub ins : IsStrictlyIncreasing (in_slots port.ins)
  pub readers : Each (λ link. IsStrictlyIncreasing link.readers) port.outs

-- the slots of each port
pub record AreShapesOf (ports : List PortImage) (shapes : List Shape) : Type 0 where
  pub as_many : length shapes ≡ length ports
  pub each : (p : ℕ) (port : PortImage) (shape : Shape) → slice_get ports p ≡ Some port → slice_get shapes p ≡ Some shape → IsShapeOf port shape

-- the slots and readers of each port rise
abbrev pub AreRising : List PortImage → Type 0
AreRising ports = Each IsRising ports
