use Rattle.std.proofs.Common.{arith, length, refl, subst, ◌≡◌}
use Rattle.std.proofs.lemmas.Option.{slice_get_read}
use Rattle.crew_run.specs.code.Phases.{AreBegun}
use Rattle.crew_run.proofs.PhaseLemmas.{begun_more, begun_none, untold_room}
use Rattle.crew_run.proofs.phase.tell_turns.Goals as goal

pub tell_turn-requires-clause-room : goal.tell_turn-requires-clause-room
tell_turn-requires-clause-room g c =
    let at = slice_get_read c.args.members.now _ c.loop-k.k c.index-members-k.result refl c.loop-k-test.true c.index-members-k.is in
    untold_room g.S.Stepper g.G.Gate _ _ _ _ _ at c.loop-k.invariant (c.requires.room _ _ at)

pub loop-k-preserved : goal.loop-k-preserved
loop-k-preserved g c =
    let at = slice_get_read c.args.members.now _ c.loop-k.k c.index-members-k.result refl c.loop-k-test.true c.index-members-k.is in
    begun_more g.S.Stepper g.G.Gate _ _ _ _ _ _ c.requires.ready at c.loop-k.invariant c.tell_turn.ensures.begun c.tell_turn.ensures.others

pub loop-k-init : goal.loop-k-init
loop-k-init g c = begun_none g.S.Stepper g.G.Gate c.args.members.now c.args.gate.now

pub returns : goal.returns
returns g c =
    let whole : c.loop-k.k ≡ length c.args.members.now = omega (arith, c.loop-k-test.false, c.loop-k.auto.k-end) in
    subst (λ n. AreBegun g.S.Stepper g.G.Gate n c.args.members.now c.args.gate.now c.loop-k.gate) whole c.loop-k.invariant

pub tell_turn-requires-clause-port : goal.tell_turn-requires-clause-port
tell_turn-requires-clause-port g c = c.requires.ready.port _ _ (slice_get_read c.args.members.now _ c.loop-k.k c.index-members-k.result refl c.loop-k-test.true c.index-members-k.is)

pub tell_turn-requires-clause-within : goal.tell_turn-requires-clause-within
tell_turn-requires-clause-within g c = c.requires.ready.within _ _ (slice_get_read c.args.members.now _ c.loop-k.k c.index-members-k.result refl c.loop-k-test.true c.index-members-k.is)
