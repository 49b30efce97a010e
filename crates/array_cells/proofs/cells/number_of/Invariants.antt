use Rattle.std.proofs.Common.{◌≡◌, take}
use Rattle.logic_four.specs.Memory.{bits_number}
use Rattle.array_cells.proofs.cells.number_of.Given as goal

abbrev pub invariant-loop-i : goal.invariant-loop-i
invariant-loop-i l = l.number ≡ bits_number (take l.i l.address)
