use Rattle.std.specs.Prelude.{slice_index_or}
use Rattle.logic_four.specs.declared.V4.TheVariants.{Zero}
use Rattle.array_cells.specs.code.Places.{Writes, stored}
use Rattle.array_cells.proofs.places.store.Given as goal

abbrev pub invariant-loop-i : goal.invariant-loop-i
invariant-loop-i l = Writes l.initial.sheet l.sheet l.base l.i (λ i. stored l.we (slice_index_or l.word i Zero))
