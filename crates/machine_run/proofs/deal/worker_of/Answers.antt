use Rattle.std.proofs.Common.{refl}
use Rattle.machine_run.proofs.deal.worker_of.Goals as goal

pub returns-clause-is : goal.returns-clause-is
returns-clause-is c = refl
