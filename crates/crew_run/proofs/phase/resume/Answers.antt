use Rattle.std.proofs.{Common.◌∙◌, Common.refl, Common.sym, lemmas.Option.none-some}
use Rattle.crew_run.proofs.PhaseLemmas.{can_step_with, stepped_back}
use Rattle.crew_run.proofs.phase.resume.Goals as goal

pub returns-in_default : goal.returns-in_default
returns-in_default g c = absurd (none-some c.requires.gate (sym c.in_default.is ∙ (c.take.ensures.value ∙ c.requires.gate_is)))

pub run_rounds-requires : goal.run_rounds-requires
run_rounds-requires g c = rw c.as_mut_slice.ensures.value (can_step_with g.S.Stepper g.G.Gate c.args.worker.now c.in-Some.gate c.requires (sym c.take.ensures.value ∙ c.in-Some.is))

pub returns : goal.returns
returns g c = record {
  gate = c.in-Some.gate;
  gate_is = sym c.take.ensures.value ∙ c.in-Some.is;
  gate' = c.run_rounds.new.gate;
  gate'_is = refl;
  stepped = stepped_back g.S.Stepper g.G.Gate c.args.worker.now.members _ _ _ _ c.as_mut_slice.ensures.value c.run_rounds.ensures;
}
