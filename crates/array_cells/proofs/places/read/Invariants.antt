use Rattle.std.proofs.Common.{◌≡◌, ◌<◌, ◌+◌, ℕ, get_or}
use Rattle.logic_four.specs.{declared.V4.TheVariants.Undef, Packed.packed_value}
use Rattle.array_cells.proofs.places.read.Given as goal

abbrev pub invariant-loop-i : goal.invariant-loop-i
invariant-loop-i l = (k : ℕ) → k < l.i → get_or l.outs k Undef ≡ packed_value l.sheet (l.base + k)
