use Rattle.crew_run.proofs.SoloLemmas.{all_resumed_can, all_resumed_more}
use Rattle.crew_run.proofs.crew.go_on.Goals as goal

pub all_done-requires : goal.all_done-requires
all_done-requires g c = λ i w at k a there. (all_resumed_can g.S.Stepper g.G.Gate _ _ c.requires.can c.run_solo.ensures i w at).can.ready.small k a there

pub resume_all-in_threads-requires-clause-can : goal.resume_all-in_threads-requires-clause-can
resume_all-in_threads-requires-clause-can g c κs within = all_resumed_can g.S.Stepper g.G.Gate _ _ c.requires.can c.run_solo.ensures

pub returns : goal.returns
returns g c =
    let laws = g.met.S.Stepper g.world.𝓛 g.world.𝓜 g.world.𝓡 ((λ s x. x), (λ x. x), (λ x. x), λ x. x) in
    all_resumed_more g.S.Stepper g.G.Gate laws.transitive _ _ _ c.run_solo.ensures c.resume_all-in_threads.ensures
