use Rattle.crew_run.specs.code.Phases.{AreBegun}
use Rattle.crew_run.proofs.phase.tell_turns.Given as goal

abbrev pub invariant-loop-k : goal.invariant-loop-k
invariant-loop-k g l = AreBegun g.S.Stepper g.G.Gate l.k l.members l.initial.gate l.gate
