use Rattle.plan_defs.proofs.lemmas.WellFormedLemmas.{well_formed}
use Rattle.plan_defs.proofs.law.items_are_well_formed.Goals as goal

pub returns : goal.returns
returns c net timing nodes valid are = well_formed net timing nodes valid are
