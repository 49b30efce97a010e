use Rattle.yse_compile.proofs.InputLemmas.{inputs_same}
use Rattle.yse_compile.proofs.inputs.same_inputs.Goals as goal

pub returns : goal.returns
returns c net timing nodes valid are = inputs_same net timing nodes valid are
