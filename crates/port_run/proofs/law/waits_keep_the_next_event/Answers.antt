use Rattle.port_run.proofs.CoreLemmas.{wait_keeps}
use Rattle.port_run.proofs.law.waits_keep_the_next_event.Goals as goal

pub returns : goal.returns
returns c = wait_keeps
