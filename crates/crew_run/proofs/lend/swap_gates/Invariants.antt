use Rattle.crew_run.specs.code.Lending.{AreSwapped}
use Rattle.crew_run.proofs.lend.swap_gates.Given as goal

abbrev pub invariant-workers : goal.invariant-workers
invariant-workers g l = AreSwapped l.i l.initial.workers l.initial.gates l.workers l.gates
