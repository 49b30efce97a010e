use Rattle.machine_run.proofs.DealtLemmas.{idle_more}
use Rattle.machine_run.proofs.deal.idle_crew.Goals as goal

pub workers-preserved : goal.workers-preserved
workers-preserved g c = rw c.in_ok-push.ensures.ok (idle_more c.workers.counter c.workers.crew _ c.workers.invariant c.new.ensures)
