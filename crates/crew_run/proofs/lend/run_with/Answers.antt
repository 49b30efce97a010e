use Rattle.crew_run.proofs.LendLemmas.{lent_can_run, lent_have_run}
use Rattle.crew_run.proofs.lend.run_with.Goals as goal

pub run_all-requires-after_bounds : goal.run_all-requires-after_bounds
run_all-requires-after_bounds g c κs within = lent_can_run g.S.Stepper g.G.Gate _ _ _ _ c.swap_gates.ensures c.requires

pub returns : goal.returns
returns g c = lent_have_run g.S.Stepper g.G.Gate _ _ _ _ c.swap_gates.ensures _ _ _ c.requires.enough c.run_all.ensures c.swap_gates-2.ensures
