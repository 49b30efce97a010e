use Rattle.image_check.proofs.CarryLemmas.{CarryBelow}
use Rattle.image_check.proofs.claims.carry_all.Given as goal

abbrev pub invariant-sources : goal.invariant-sources
invariant-sources l = CarryBelow l.one l.sources l.items l.k
