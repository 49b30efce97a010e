use Rattle.std.proofs.Common.{rules, arith, sym, ◌∙◌}
use Rattle.std.proofs.lemmas.Option.{slice_get-get_or}
use Rattle.machine_run.specs.code.Moves.{HasGoneOn}
use Rattle.machine_run.proofs.MoveLemmas.{first_all, first_more}
use Rattle.machine_run.proofs.steps.go_on_members.Goals as goal

pub go_on-requires : goal.go_on-requires
go_on-requires c =
    let at = slice_get-get_or c.members.members c.members.k c.index-members-k.result (omega (arith, c.members-test.true, c.members.invariant.count)) in
    c.requires c.members.k _ (sym (c.members.invariant.others c.members.k (omega arith)) ∙ at)

pub members-preserved : goal.members-preserved
members-preserved c =
    let at = slice_get-get_or c.members.members c.members.k c.index-members-k.result (omega (arith, c.members-test.true, c.members.invariant.count)) in
    first_more HasGoneOn c.args.members.now c.members.k c.members.members _ c.go_on.new.member c.members.invariant at c.go_on.ensures

pub returns : goal.returns
returns c = first_all HasGoneOn c.args.members.now c.members.k c.members.members c.members.invariant (omega (arith, c.members-test.false))

pub members-init : goal.members-init
members-init c = search rules
