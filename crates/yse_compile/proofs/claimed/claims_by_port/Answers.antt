use Rattle.std.proofs.{Common.rules, lemmas.Grind.common_steps}
use Rattle.yse_compile.proofs.claimed.claims_by_port.Goals as goal

pub ports-preserved : goal.ports-preserved
ports-preserved c = search (rules, common_steps)
