use Rattle.home_pick.proofs.PassLemmas.{some_better}
use Rattle.home_pick.proofs.law.some_better.Goals as goal

pub returns : goal.returns
returns c = some_better
