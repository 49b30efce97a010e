use Rattle.node_defs.proofs.lemmas.EarlierLemmas.{earlier}
use Rattle.node_defs.proofs.law.operands_are_earlier.Goals as goal

pub returns : goal.returns
returns c net timing nodes are = earlier net timing nodes are
