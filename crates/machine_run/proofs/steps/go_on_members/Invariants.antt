use Rattle.machine_run.specs.code.Moves.{AreFirst, HasGoneOn}
use Rattle.machine_run.proofs.steps.go_on_members.Given as goal

abbrev pub invariant-members : goal.invariant-members
invariant-members l = AreFirst HasGoneOn l.k l.fn.members l.members
