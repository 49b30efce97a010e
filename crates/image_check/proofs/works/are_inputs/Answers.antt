use Rattle.std.proofs.Common.{◌<◌}
use Rattle.image_check.proofs.lemmas.EachLemmas.{each_done}
use Rattle.image_check.proofs.works.are_inputs.Goals as goal

pub returns : goal.returns
returns c = each_done (λ input. input.column < c.args.columns) c.inputs.k c.args.inputs.now c.inputs-test.false c.inputs.invariant
