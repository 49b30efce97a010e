use Rattle.crew_run.proofs.SoloLemmas.{all_resumed_can, all_resumed_more, all_resumed_none}
use Rattle.crew_run.proofs.solo.revisit_all.Goals as goal

pub visits-init : goal.visits-init
visits-init g c = all_resumed_none g.S.Stepper g.G.Gate g.met.S.Stepper.reflexive _ c.requires

pub visit_one-requires : goal.visit_one-requires
visit_one-requires g c = all_resumed_can g.S.Stepper g.G.Gate _ _ c.requires c.visits.invariant

pub visits-preserved : goal.visits-preserved
visits-preserved g c = all_resumed_more g.S.Stepper g.G.Gate g.met.S.Stepper.transitive _ _ _ c.visits.invariant c.visit_one.ensures
