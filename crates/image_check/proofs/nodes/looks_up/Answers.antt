use Rattle.std.proofs.Common.{rules}
use Rattle.image_check.proofs.lemmas.EachLemmas.{second_left}
use Rattle.image_check.proofs.nodes.looks_up.Goals as goal

pub returns : goal.returns
returns c = second_left c.carry_four.result (c.if-not-is_same_table.ensures.0 (search rules)) c.carry_four.ensures
