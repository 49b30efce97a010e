use Rattle.yse_compile.proofs.lemmas.PlanExists as plans
use Rattle.yse_compile.proofs.law.plan_exists.Goals as goal

pub returns : goal.returns
returns c nodes homes formed are = plans.plan_exists nodes homes formed are
