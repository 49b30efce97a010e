use Rattle.std.proofs.Common.{◌∙◌, sym, ap}
use Rattle.plan_defs.specs.Picks.{node_count}
use Rattle.yse_compile.proofs.law.one_many.Goals as goal

pub returns : goal.returns
returns c net machine timing needed limit other_needed other_limit first second =
    let same = c.one_list.ensures.one net timing first.nodes second.nodes first.items second.items in
    (first.many.count ∙ (ap node_count same ∙ sym second.many.count), first.many.room ∙ sym second.many.room)
