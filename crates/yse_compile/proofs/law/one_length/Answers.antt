use Rattle.std.proofs.Common.{◌∙◌, sym}
use Rattle.slot_plan.specs.Refusals.{IsLong}
use Rattle.yse_compile.proofs.FitLemmas.{moved}
use Rattle.yse_compile.proofs.law.one_length.Goals as goal

pub returns : goal.returns
returns c net machine timing valid needed limit other_needed other_limit first second =
    let nodes = c.one_list.ensures.one net timing first.nodes second.nodes first.items second.items in
    let homes = c.one_homes.ensures net machine timing first.nodes second.nodes first.items second.items first.homes second.homes first.picked second.picked in
    let long = moved (λ n h. IsLong n h machine needed limit) nodes homes first.long in
    let plans = c.one_plan.ensures second.nodes second.homes long.plan second.long.plan (c.items_are_well_formed.ensures net timing second.nodes valid second.items.items) long.is second.long.is in
    (sym long.needs ∙ (plans.1 ∙ second.long.needs), long.most ∙ sym second.long.most)
