use Rattle.std.proofs.Common.{arith}
use Rattle.plan_defs.proofs.lemmas.WellFormedLemmas.{few_nodes}
use Rattle.home_pick.proofs.HomeLemmas.{common_nodes}
use Rattle.home_pick.proofs.law.default_nodes.Goals as goal

pub returns : goal.returns
returns c net timing nodes machine p valid are whole none =
    omega (arith, few_nodes net timing nodes valid are, common_nodes machine p none, whole)
