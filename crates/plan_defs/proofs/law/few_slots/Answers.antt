use Rattle.plan_defs.proofs.lemmas.PlanLemmas as plans
use Rattle.plan_defs.proofs.law.few_slots.Goals as goal

pub returns : goal.returns
returns c nodes homes plan formed is = plans.few_slots nodes homes plan formed is
