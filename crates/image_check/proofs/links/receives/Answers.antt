use Rattle.std.proofs.Common.{◌∙◌}
use Rattle.image_check.proofs.LinkLemmas.{receives_none, receives_some}
use Rattle.image_check.proofs.links.receives.Goals as goal

pub returns-in-Some : goal.returns-in-Some
returns-in-Some c =
    receives_some c.args.port.now c.as_slice.result.now c.as_slice-in-Some.result.now c.in-Some.place c.args.slot c.args.sender _ (c.as_slice.ensures ∙ c.requires.shape.ins) c.requires.rising c.in-Some.ensures c.as_slice-in-Some.ensures

pub returns-in-None : goal.returns-in-None
returns-in-None c = receives_none c.args.port.now c.as_slice.result.now c.args.slot c.args.sender (c.as_slice.ensures ∙ c.requires.shape.ins) c.in-None.ensures
