use Rattle.slot_plan.specs.Refusals.{IsCrowded}
use Rattle.yse_compile.proofs.FitLemmas.{moved, one_crowded}
use Rattle.yse_compile.proofs.law.one_crowd.Goals as goal

pub returns : goal.returns
returns c net machine timing port needed limit other_port other_needed other_limit first second =
    let nodes = c.one_list.ensures.one net timing first.nodes second.nodes first.items second.items in
    let homes = c.one_homes.ensures net machine timing first.nodes second.nodes first.items second.items first.homes second.homes first.picked second.picked in
    one_crowded second.nodes second.homes machine port needed limit other_port other_needed other_limit
    (moved (λ n h. IsCrowded n h machine port needed limit) nodes homes first.crowded) second.crowded
