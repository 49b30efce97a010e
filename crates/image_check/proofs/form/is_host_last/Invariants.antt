use Rattle.std.proofs.Common.{◌≡◌, ◌↔◌, ℕ, ◌+◌, ◌<◌, length, Some, slice_get}
use Rattle.image_defs.specs.{declared.image.PortImage.PortImage, WellFormed.IsHost}
use Rattle.image_check.proofs.form.is_host_last.Given as goal

abbrev pub invariant-ports : goal.invariant-ports
invariant-ports l = (p : ℕ) (port : PortImage) → p < l.p → slice_get l.ports p ≡ Some port → IsHost port.work ↔ (p + 1 ≡ length l.ports)
