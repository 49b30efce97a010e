use Rattle.std.proofs.{Common.◌∙◌, Common.sym, lemmas.Bool.eqb-true}
use Rattle.crew_run.proofs.CrewLemmas.{all_begun_resumed, all_can_resume, all_have_run, none_have_run}
use Rattle.crew_run.proofs.crew.run_phases.Goals as goal

pub all_done-requires : goal.all_done-requires
all_done-requires g c = λ i w at k a there. (all_can_resume g.S.Stepper g.G.Gate _ _ c.requires c.phases.invariant i w at).can.ready.small k a there

pub returns-then-all_done : goal.returns-then-all_done
returns-then-all_done g c = all_have_run g.S.Stepper g.G.Gate _ _ c.requires c.phases.invariant c.if-all_done.ensures

pub go_on-steps-requires-clause-can : goal.go_on-steps-requires-clause-can
go_on-steps-requires-clause-can g c κs within = all_can_resume g.S.Stepper g.G.Gate _ _ c.requires c.phases.invariant

pub phases-preserved : goal.phases-preserved
phases-preserved g c =
    let laws = g.met.S.Stepper g.world.𝓛 g.world.𝓜 g.world.𝓡 ((λ s x. x), (λ x. x), (λ x. x), λ x. x) in
    all_begun_resumed g.S.Stepper g.G.Gate laws.transitive _ _ _ c.phases.invariant c.go_on-steps.ensures

pub returns-then-is_empty : goal.returns-then-is_empty
returns-then-is_empty g c = none_have_run g.S.Stepper g.G.Gate c.args.workers.now (eqb-true _ 0 (sym c.is_empty.ensures ∙ c.if-is_empty.true))

pub begin_all-requires-clause-can : goal.begin_all-requires-clause-can
begin_all-requires-clause-can g c κs within = c.requires

pub phases-init : goal.phases-init
phases-init g c = c.begin_all.ensures
