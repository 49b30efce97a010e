use Rattle.std.proofs.Common.{◌∙◌}
use Rattle.image_check.proofs.LinkLemmas.{sends_none, sends_some}
use Rattle.image_check.proofs.links.sends_to.Goals as goal

pub returns-in-Some : goal.returns-in-Some
returns-in-Some c =
    sends_some c.args.port.now c.as_slice.result.now c.as_slice-in-Some.result.now c.in-Some.place c.args.slot c.args.reader c.is_read.result (c.as_slice.ensures ∙ c.requires.shape.outs) c.requires.rising c.in-Some.ensures c.as_slice-in-Some.ensures
    c.is_read.ensures

pub returns-in-None : goal.returns-in-None
returns-in-None c = sends_none c.args.port.now c.as_slice.result.now c.args.slot c.args.reader (c.as_slice.ensures ∙ c.requires.shape.outs) c.in-None.ensures
