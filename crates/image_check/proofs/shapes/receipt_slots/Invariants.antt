use Rattle.std.proofs.Common.{◌≡◌, map, take}
use Rattle.image_check.proofs.shapes.receipt_slots.Given as goal

abbrev pub invariant-receipts : goal.invariant-receipts
invariant-receipts l = l.slots ≡ map (λ link. link.slot) (take l.k l.receipts)
