use Rattle.crew_run.proofs.SoloLemmas.{all_resumed_can, all_resumed_more, all_resumed_none}
use Rattle.crew_run.proofs.solo.run_solo.Goals as goal

pub returns-then-is_short : goal.returns-then-is_short
returns-then-is_short g c = all_resumed_none g.S.Stepper g.G.Gate g.met.S.Stepper.reflexive _ c.requires

pub rounds-init : goal.rounds-init
rounds-init g c = all_resumed_none g.S.Stepper g.G.Gate g.met.S.Stepper.reflexive _ c.requires

pub visit_all-round-requires : goal.visit_all-round-requires
visit_all-round-requires g c = all_resumed_can g.S.Stepper g.G.Gate _ _ c.requires c.rounds.invariant

pub returns-then-is_over : goal.returns-then-is_over
returns-then-is_over g c = all_resumed_more g.S.Stepper g.G.Gate g.met.S.Stepper.transitive _ _ _ c.rounds.invariant c.visit_all-round.ensures

pub revisit_all-requires : goal.revisit_all-requires
revisit_all-requires g c =
    let round = all_resumed_more g.S.Stepper g.G.Gate g.met.S.Stepper.transitive _ _ _ c.rounds.invariant c.visit_all-round.ensures in
    all_resumed_can g.S.Stepper g.G.Gate _ _ c.requires round

pub rounds-preserved : goal.rounds-preserved
rounds-preserved g c =
    let round = all_resumed_more g.S.Stepper g.G.Gate g.met.S.Stepper.transitive _ _ _ c.rounds.invariant c.visit_all-round.ensures in
    all_resumed_more g.S.Stepper g.G.Gate g.met.S.Stepper.transitive _ _ _ round c.revisit_all.ensures
