use Rattle.std.proofs.{Common.◌∙◌, Common.refl, Common.sym, lemmas.Option.none-some}
use Rattle.crew_run.proofs.PhaseLemmas.{can_step_with, stepped_back}
use Rattle.crew_run.proofs.solo.visit.Goals as goal

pub step_one-requires : goal.step_one-requires
step_one-requires g c = rw c.as_mut_slice.ensures.value (can_step_with g.S.Stepper g.G.Gate c.args.worker.now c.in-Some.gate c.requires c.in-Some.is)

pub returns-in-Some : goal.returns-in-Some
returns-in-Some g c = record {
  gate = c.in-Some.gate;
  gate_is = c.in-Some.is;
  gate' = c.step_one.new.gate;
  gate'_is = refl;
  stepped = stepped_back g.S.Stepper g.G.Gate c.args.worker.now.members _ _ _ _ c.as_mut_slice.ensures.value c.step_one.ensures;
}

pub returns-in-None : goal.returns-in-None
returns-in-None g c = absurd (none-some c.requires.gate (sym c.in-None.is ∙ c.requires.gate_is))
