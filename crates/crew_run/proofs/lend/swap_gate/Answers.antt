use Rattle.std.proofs.Common.{refl}
use Rattle.crew_run.proofs.lend.swap_gate.Goals as goal

pub returns-clause-worker : goal.returns-clause-worker
returns-clause-worker g c = rw c.swap.ensures.x_after refl
