use Rattle.plan_defs.proofs.lemmas.WellFormedLemmas as formed
use Rattle.plan_defs.proofs.law.few_nodes.Goals as goal

pub returns : goal.returns
returns c net timing nodes valid are = formed.few_nodes net timing nodes valid are
