use Rattle.std.proofs.Common.{arith}
use Rattle.node_defs.proofs.lemmas.GroupLemmas.{counted_begun, counted_more, counted_all}
use Rattle.node_defs.proofs.groups.helper_count.Goals as goal

pub levels-init : goal.levels-init
levels-init c = counted_begun c.args.operands

pub levels-preserved : goal.levels-preserved
levels-preserved c =
    counted_more c.args.operands c.levels.helpers c.levels.count (omega (arith, c.levels-test.true)) c.levels.invariant

pub returns : goal.returns
returns c =
    let all : _ = counted_all c.args.operands c.levels.helpers c.levels.count (omega (arith, c.levels-test.false)) c.levels.invariant in
    omega (arith, all)
