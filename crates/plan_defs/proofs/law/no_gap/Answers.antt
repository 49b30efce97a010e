use Rattle.plan_defs.proofs.lemmas.PlanLemmas as plans
use Rattle.plan_defs.proofs.law.no_gap.Goals as goal

pub returns : goal.returns
returns c nodes homes plan formed is i s within under = plans.no_gap nodes homes plan formed is i s within under
