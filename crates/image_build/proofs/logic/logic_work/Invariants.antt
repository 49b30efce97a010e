use Rattle.image_build.specs.code.Plans.{AreFirstTasks}
use Rattle.image_build.proofs.logic.logic_work.Given as goal

abbrev pub invariant-items : goal.invariant-items
invariant-items l = AreFirstTasks l.nodes l.homes l.plan.slots l.port l.k l.items l.shelf.tables l.tasks
