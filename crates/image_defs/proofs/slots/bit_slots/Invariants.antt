use Rattle.std.proofs.Common.{◌≡◌, map, take}
use Rattle.image_defs.proofs.slots.bit_slots.Given as goal

abbrev pub invariant-bits : goal.invariant-bits
invariant-bits l = l.slots ≡ map (λ bit. bit.slot) (take l.bit-index l.bits)
