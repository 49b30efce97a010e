use Rattle.plan_defs.proofs.lemmas.PlanLemmas.{plans_agree}
use Rattle.plan_defs.proofs.law.one_plan.Goals as goal

pub returns : goal.returns
returns c nodes homes one other formed first second = plans_agree nodes homes one other formed first second
