use Rattle.node_defs.proofs.ReferenceLemmas.{reference_values}
use Rattle.node_defs.proofs.law.values_are_reference.Goals as goal

pub returns : goal.returns
returns c net timing nodes valid are stimulus values run = reference_values net timing nodes valid are stimulus values run
