use Rattle.home_pick.proofs.PassLemmas.{one_better}
use Rattle.home_pick.proofs.law.one_better.Goals as goal

pub returns : goal.returns
returns c = one_better
