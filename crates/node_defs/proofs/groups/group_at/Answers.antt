use Rattle.std.proofs.Common.{sym, arith}
use Rattle.node_defs.proofs.lemmas.GroupLemmas.{at_next, found_helper, found_own}
use Rattle.node_defs.proofs.groups.group_at.Goals as goal

pub returns-then-left-groups : goal.returns-then-left-groups
returns-then-left-groups c =
    rw c.min.ensures (sym (found_helper c.args.operands c.args.place c.levels.first c.levels.count c.levels.left
    (omega (arith, c.levels-test.true)) (omega (arith, c.if-left-groups.true)) c.levels.invariant))

pub levels-preserved : goal.levels-preserved
levels-preserved c =
    at_next c.args.operands c.args.place c.levels.first c.levels.count c.levels.left
    (omega (arith, c.levels-test.true)) (omega (arith, c.if-left-groups.false)) c.levels.invariant

pub returns : goal.returns
returns c =
    sym (found_own c.args.operands c.args.place c.levels.first c.levels.count c.levels.left
    (omega (arith, c.levels-test.false)) c.levels.invariant)
