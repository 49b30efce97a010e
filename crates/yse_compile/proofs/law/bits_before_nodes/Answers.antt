use Rattle.std.proofs.Common.{subst}
use Rattle.plan_defs.specs.Picks.{FindsNoPort}
use Rattle.yse_compile.proofs.law.bits_before_nodes.Goals as goal

pub returns : goal.returns
returns c net machine timing block bits left needed limit lacks lacks_nodes =
    c.housed_or_refused.ensures lacks_nodes.nodes machine lacks_nodes.many.ports block bits left lacks_nodes.many.memories
    (subst (λ n. FindsNoPort n machine block bits left) (c.one_list.ensures.one net timing lacks.nodes lacks_nodes.nodes lacks.items lacks_nodes.items) lacks.none)
