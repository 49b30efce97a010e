use Rattle.std.proofs.Common.{length}
use Rattle.plan_defs.proofs.lemmas.PlanLemmas.{one_at_home}
use Rattle.plan_defs.proofs.law.one_sending.Goals as goal

pub returns : goal.returns
returns c nodes homes plan fit i j low high home slot = one_at_home nodes homes plan.slots (length nodes.items) fit.slots i j low high home slot
