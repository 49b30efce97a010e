use Rattle.std.proofs.Common.{rules}
use Rattle.image_check.proofs.lemmas.EachLemmas.{second_left}
use Rattle.image_check.proofs.works.is_host.Goals as goal

pub returns : goal.returns
returns c = second_left c.are_present.result (c.if-not-are_inputs.ensures.0 (search rules)) c.are_present.ensures
