use Rattle.image_defs.specs.WellFormed.{IsTask}
use Rattle.image_check.proofs.lemmas.EachLemmas.{EachBelow}
use Rattle.image_check.proofs.works.are_tasks.Given as goal

abbrev pub invariant-tasks : goal.invariant-tasks
invariant-tasks l = EachBelow (IsTask l.port l.tables) l.k l.tasks
