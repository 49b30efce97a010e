use Rattle.std.proofs.Common.{◌≡◌, map, take}
use Rattle.image_defs.proofs.slots.input_slots.Given as goal

abbrev pub invariant-inputs : goal.invariant-inputs
invariant-inputs l = l.slots ≡ map (λ input. input.slot) (take l.input-index l.inputs)
