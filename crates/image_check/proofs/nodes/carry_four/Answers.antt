use Rattle.std.proofs.Common.{rules}
use Rattle.image_check.proofs.CarryLemmas.{four_by_last}
use Rattle.image_check.proofs.nodes.carry_four.Goals as goal

pub returns : goal.returns
returns c =
    four_by_last c.args.one.now c.args.sources.now c.args.feeds.now c.carries-4.result (c.if-not-carries.ensures.0 (search rules)) (c.if-not-carries-2.ensures.0 (search rules)) (c.if-not-carries-3.ensures.0 (search rules)) c.carries-4.ensures
