use Rattle.image_lines.proofs.lemmas.SplitLemmas.{cut_some, cut_none}
use Rattle.image_lines.proofs.fields.cut.Goals as goal

pub returns-in-Some : goal.returns-in-Some
returns-in-Some c = cut_some 32 c.args.text.now c.in-Some.token.now c.in-Some.rest.now c.in-Some.ensures

pub returns-in-None : goal.returns-in-None
returns-in-None c = cut_none 32 c.args.text.now c.in-None.ensures
