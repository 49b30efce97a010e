use Rattle.machine_run.specs.code.Dealt.{AreIdle}
use Rattle.machine_run.proofs.deal.idle_crew.Given as goal

abbrev pub invariant-workers : goal.invariant-workers
invariant-workers g l = AreIdle l.counter l.crew
