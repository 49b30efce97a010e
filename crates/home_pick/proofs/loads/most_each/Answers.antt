use Rattle.std.proofs.{Common.rules, lemmas.Grind.common_steps}
use Rattle.home_pick.proofs.loads.most_each.Goals as goal

pub ports-preserved : goal.ports-preserved
ports-preserved c = search (rules, common_steps)
