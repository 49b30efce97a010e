use Rattle.std.proofs.Common.{subst}
use Rattle.plan_defs.specs.Picks.{FindsNoPort}
use Rattle.yse_compile.proofs.OneNone.{one_none}
use Rattle.yse_compile.proofs.law.one_lack.Goals as goal

pub returns : goal.returns
returns c net machine timing block needed left other_block other_needed other_left first second =
    one_none second.nodes machine (c.one_housing.ensures second.nodes machine) block needed left other_block other_needed other_left
    (subst (λ n. FindsNoPort n machine block needed left) (c.one_list.ensures.one net timing first.nodes second.nodes first.items second.items) first.none) second.none
