use Rattle.home_pick.proofs.LimitLemmas.{limits_kept}
use Rattle.home_pick.proofs.law.limits_are_kept.Goals as goal

pub returns : goal.returns
returns c = limits_kept
