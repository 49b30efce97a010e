use Rattle.std.proofs.Common.{rules}
use Rattle.image_defs.specs.WellFormed.{IsTask}
use Rattle.image_check.proofs.lemmas.EachLemmas.{each_read, each_done, each_read_not}
use Rattle.image_check.proofs.works.are_tasks.Goals as goal

pub tasks-preserved : goal.tasks-preserved
tasks-preserved c = each_read (IsTask c.args.port.now c.args.tables) c.tasks.k c.args.tasks.now _ c.tasks.invariant c.tasks-test.true (c.if-not-is_task.ensures.0 (search rules))

pub returns : goal.returns
returns c = each_done (IsTask c.args.port.now c.args.tables) c.tasks.k c.args.tasks.now c.tasks-test.false c.tasks.invariant

pub returns-then-not-is_task : goal.returns-then-not-is_task
returns-then-not-is_task c = each_read_not (IsTask c.args.port.now c.args.tables) c.tasks.k c.args.tasks.now _ c.tasks-test.true c.if-not-is_task.ensures
