use Rattle.std.proofs.Common.{◌≡◌, map, take}
use Rattle.image_defs.specs.Places.{task_slot}
use Rattle.image_defs.proofs.slots.task_slots.Given as goal

abbrev pub invariant-tasks : goal.invariant-tasks
invariant-tasks l = l.slots ≡ map task_slot (take l.task-index l.tasks)
