use Rattle.crew_run.proofs.SoloLemmas.{all_resumed_can, all_resumed_more, all_resumed_none}
use Rattle.crew_run.proofs.solo.visit_all.Goals as goal

pub members-init : goal.members-init
members-init g c = all_resumed_none g.S.Stepper g.G.Gate g.met.S.Stepper.reflexive _ c.requires

pub visit_one-steps-requires : goal.visit_one-steps-requires
visit_one-steps-requires g c = all_resumed_can g.S.Stepper g.G.Gate _ _ c.requires c.members.invariant

pub members-preserved : goal.members-preserved
members-preserved g c = all_resumed_more g.S.Stepper g.G.Gate g.met.S.Stepper.transitive _ _ _ c.members.invariant c.visit_one-steps.ensures
