use Rattle.std.proofs.{Common.arith, lemmas.Option.slice_get-get_or}
use Rattle.crew_run.proofs.StepLemmas.{one_stepped, stepped_none}
use Rattle.crew_run.proofs.turns.step_one.Goals as goal

pub returns-then-k-members : goal.returns-then-k-members
returns-then-k-members g c = stepped_none g.S.Stepper g.G.Gate g.met.S.Stepper.reflexive _ _

pub step_member-requires : goal.step_member-requires
step_member-requires g c =
    let at = slice_get-get_or c.args.members.now c.args.k c.index-members-k.result (omega (arith, c.if-k-members.false)) in
    record {
      port = c.requires.ready.port _ _ at;
      within = c.requires.ready.within _ _ at;
      small = c.requires.ready.small _ _ at;
      room = c.requires.room _ _ at;
    }

pub returns : goal.returns
returns g c =
    let at = slice_get-get_or c.args.members.now c.args.k c.index-members-k.result (omega (arith, c.if-k-members.false)) in
    one_stepped g.S.Stepper g.G.Gate g.met.S.Stepper.reflexive _ _ _ _ _ _ c.requires.ready at c.step_member.ensures
