use Rattle.std.proofs.Common.{◌≡◌, map, take}
use Rattle.image_check.proofs.shapes.send_slots.Given as goal

abbrev pub invariant-sends : goal.invariant-sends
invariant-sends l = l.slots ≡ map (λ link. link.slot) (take l.k l.sends)
