use Rattle.machine_run.specs.Shown.{AreShown}
use Rattle.order_run.proofs.steps.rows_of.Given as goal

abbrev pub invariant-cycles : goal.invariant-cycles
invariant-cycles l = AreShown l.core.image l.core.stimulus l.c l.rows
