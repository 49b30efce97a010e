use Rattle.std.proofs.Common.{length}
use Rattle.plan_defs.proofs.lemmas.PlanLemmas.{one_received}
use Rattle.plan_defs.proofs.law.one_receipt.Goals as goal

pub returns : goal.returns
returns c nodes homes plan fit i j port low high reads other slot = one_received nodes homes plan.slots (length nodes.items) fit.slots i j port low high reads other slot
