use Rattle.std.proofs.Common.{subst, arith}
use Rattle.plan_defs.specs.Picks.{HasTooManyNodes}
use Rattle.yse_compile.proofs.law.nodes_first.Goals as goal

pub returns : goal.returns
returns c net machine timing nodes homes items picked needed limit lacks =
    let many = subst (λ n. HasTooManyNodes n machine needed limit) (c.one_list.ensures.one net timing lacks.nodes nodes lacks.items items) lacks.many in
    omega (arith, picked.few, many.count, many.room, many.past)
