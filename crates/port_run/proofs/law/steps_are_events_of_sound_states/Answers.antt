use Rattle.port_run.proofs.StateLemmas.{event_there, state_there, wait_there}
use Rattle.port_run.proofs.law.steps_are_events_of_sound_states.Goals as goal

pub returns-clause-state : goal.returns-clause-state
returns-clause-state c = state_there

pub returns-clause-event : goal.returns-clause-event
returns-clause-event c key s word number id p held old new act table until event state few kept there port_is after made still is =
    event_there key s id p old table kept there port_is word number held new act state after is until event few made still

pub returns-clause-wait : goal.returns-clause-wait
returns-clause-wait c key s word number id p held old new act table until state few kept there port_is after wait still is =
    wait_there key s id p old table kept there port_is word number held new act state after is until few wait still
