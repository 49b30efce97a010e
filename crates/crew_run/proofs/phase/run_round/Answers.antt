use Rattle.std.proofs.{Common.arith, lemmas.Option.slice_get-get_or}
use Rattle.crew_run.proofs.StepLemmas.{can_step_kept, one_stepped, stepped_more}
use Rattle.crew_run.proofs.phase.run_round.Goals as goal

pub step_member-requires : goal.step_member-requires
step_member-requires g c =
    let can = can_step_kept g.S.Stepper g.G.Gate c.args.members.now c.members.members c.args.gate.now c.members.gate c.members.invariant c.requires in
    let at = slice_get-get_or c.members.members c.members.k c.index-members-k.result (omega (arith, c.members-test.true, c.members.invariant.count)) in
    record {
      port = can.ready.port _ _ at;
      within = can.ready.within _ _ at;
      small = can.ready.small _ _ at;
      room = can.room _ _ at;
    }

pub members-preserved : goal.members-preserved
members-preserved g c =
    let can = can_step_kept g.S.Stepper g.G.Gate c.args.members.now c.members.members c.args.gate.now c.members.gate c.members.invariant c.requires in
    let at = slice_get-get_or c.members.members c.members.k c.index-members-k.result (omega (arith, c.members-test.true, c.members.invariant.count)) in
    stepped_more g.S.Stepper g.G.Gate g.met.S.Stepper.transitive _ _ _ _ _ _ c.members.invariant (one_stepped g.S.Stepper g.G.Gate g.met.S.Stepper.reflexive _ _ _ _ _ _ can.ready at c.step_member.ensures)
