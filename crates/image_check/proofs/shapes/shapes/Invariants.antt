use Rattle.image_check.proofs.ShapeLemmas.{ShapesBelow}
use Rattle.image_check.proofs.shapes.shapes.Given as goal

abbrev pub invariant-ports : goal.invariant-ports
invariant-ports l = ShapesBelow l.ports l.p l.shapes
