use Rattle.port_run.proofs.CoreLemmas.{core_done, core_event, core_wait}
use Rattle.port_run.proofs.law.steps_are_the_cores.Goals as goal

pub returns-clause-event : goal.returns-clause-event
returns-clause-event c = core_event

pub returns-clause-wait : goal.returns-clause-wait
returns-clause-wait c = core_wait

pub returns-clause-done : goal.returns-clause-done
returns-clause-done c = core_done
