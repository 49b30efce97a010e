use Rattle.pack_run.proofs.CoreLemmas.{done_there, event_there, state_there, wait_there}
use Rattle.pack_run.proofs.law.steps_are_events_of_sound_states.Goals as goal

pub returns-clause-state : goal.returns-clause-state
returns-clause-state c = state_there

pub returns-clause-event : goal.returns-clause-event
returns-clause-event c key s word number id p l held old new act table event state low kept there port_is after made still is =
    event_there key s id p old table kept there port_is l low state is word number held new act after event made still

pub returns-clause-wait : goal.returns-clause-wait
returns-clause-wait c key s word number id p l held old new act table state low kept there port_is after wait still is =
    wait_there key s id p old table kept there port_is l low state is word number held new act after wait still

pub returns-clause-done : goal.returns-clause-done
returns-clause-done c key s id p l old table state low kept there port_is made is = done_there key s id p old table kept there port_is l low state is made
