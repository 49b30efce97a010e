use Rattle.std.proofs.Common.{subst}
use Rattle.plan_defs.specs.Picks.{FindsNoPort}
use Rattle.yse_compile.proofs.law.bits_first.Goals as goal

pub returns : goal.returns
returns c net machine timing nodes homes items picked block needed left lacks =
    c.housed_or_refused.ensures nodes machine homes.blocks block needed left picked.memories
    (subst (λ n. FindsNoPort n machine block needed left) (c.one_list.ensures.one net timing lacks.nodes nodes lacks.items items) lacks.none)
