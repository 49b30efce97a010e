use Rattle.rank_find.proofs.RunLemmas.{start_idle, over_found}
use Rattle.rank_find.proofs.find_order.Goals as goal

pub run-requires-clause-idle : goal.run-requires-clause-idle
run-requires-clause-idle c = start_idle _ _ _ c.in_ok-walk.ensures

pub returns-in-None : goal.returns-in-None
returns-in-None c = over_found _ _ _ (rw c.in-None.is at c.in_ok-members.ensures)
