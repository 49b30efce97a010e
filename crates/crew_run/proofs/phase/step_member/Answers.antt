use Rattle.std.proofs.Common.{arith, subst, sym, ◌<◌}
use Rattle.limits.specs.declared.TheConstants.{MAX_PORTS}
use Rattle.crew_run.proofs.StepLemmas.{once_more, room_once}
use Rattle.crew_run.proofs.phase.step_member.Goals as goal

pub step_once-requires-clause-port : goal.step_once-requires-clause-port
step_once-requires-clause-port g c = subst (λ q. q < MAX_PORTS) (sym c.steps.invariant.follows.port) c.requires.port

pub step_once-requires-clause-within : goal.step_once-requires-clause-within
step_once-requires-clause-within g c = omega (arith, c.steps.invariant.follows.within c.requires.within, c.steps.invariant.follows.last_turn)

pub step_once-requires-clause-small : goal.step_once-requires-clause-small
step_once-requires-clause-small g c = omega (arith, c.steps.invariant.follows.last_turn, c.requires.small)

pub step_once-requires-clause-room : goal.step_once-requires-clause-room
step_once-requires-clause-room g c = room_once g.S.Stepper g.G.Gate _ _ _ _ c.steps.invariant c.requires.room

pub steps-preserved : goal.steps-preserved
steps-preserved g c = once_more g.S.Stepper g.G.Gate g.met.S.Stepper.transitive _ _ _ _ _ _ c.steps.invariant c.step_once.ensures

pub returns-in-NotYet : goal.returns-in-NotYet
returns-in-NotYet g c = once_more g.S.Stepper g.G.Gate g.met.S.Stepper.transitive _ _ _ _ _ _ c.steps.invariant c.step_once.ensures

pub returns-in-Done : goal.returns-in-Done
returns-in-Done g c = once_more g.S.Stepper g.G.Gate g.met.S.Stepper.transitive _ _ _ _ _ _ c.steps.invariant c.step_once.ensures
