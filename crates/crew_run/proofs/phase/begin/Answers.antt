use Rattle.std.proofs.{Common.◌∙◌, Common.refl, Common.sym, lemmas.Option.none-some}
use Rattle.crew_run.proofs.PhaseLemmas.{begun_can_step, room_of, stepped_back}
use Rattle.crew_run.proofs.phase.begin.Goals as goal

pub tell_turns-requires-clause-room : goal.tell_turns-requires-clause-room
tell_turns-requires-clause-room g c = rw c.as_slice.ensures (room_of g.S.Stepper g.G.Gate c.args.worker.now c.in-Some.gate c.requires (sym c.in-Some.ensures.value))

pub begin_rounds-requires : goal.begin_rounds-requires
begin_rounds-requires g c = rw c.as_mut_slice.ensures.value (begun_can_step g.S.Stepper g.G.Gate c.args.worker.now.members c.in-Some.gate c.tell_turns.new.gate c.requires.members (room_of g.S.Stepper g.G.Gate c.args.worker.now c.in-Some.gate c.requires (sym c.in-Some.ensures.value)) (rw c.as_slice.ensures at c.tell_turns.ensures))

pub returns-in_default : goal.returns-in_default
returns-in_default g c = absurd (none-some c.requires.gate.told (sym c.in_default.is ∙ (c.take.ensures.value ∙ c.requires.gate.is)))

pub returns : goal.returns
returns g c = record {
  gate = c.in-Some.gate;
  gate_is = sym c.take.ensures.value ∙ c.in-Some.is;
  told = c.tell_turns.new.gate;
  begun = rw c.as_slice.ensures at c.tell_turns.ensures;
  gate' = c.begin_rounds.new.gate;
  gate'_is = refl;
  stepped = stepped_back g.S.Stepper g.G.Gate c.args.worker.now.members _ _ _ _ c.as_mut_slice.ensures.value c.begin_rounds.ensures;
}
