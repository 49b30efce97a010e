use Rattle.crew_run.specs.code.Phases.{IsStepped}
use Rattle.crew_run.proofs.phase.step_member.Given as goal

abbrev pub invariant-steps : goal.invariant-steps
invariant-steps g l = IsStepped g.S.Stepper g.G.Gate l.initial.member l.initial.gate l.member l.gate
