use Rattle.yse_compile.proofs.lemmas.PlanExists as plans
use Rattle.yse_compile.proofs.law.tables_counted.Goals as goal

pub returns : goal.returns
returns c nodes homes formed port = plans.tables_counted nodes homes formed port
