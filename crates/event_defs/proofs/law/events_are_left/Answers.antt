use Rattle.std.proofs.Common.{[]}
use Rattle.net_defs.specs.declared.stimulus.Stimulus.{Stimulus}
use Rattle.event_defs.proofs.lemmas.RunLemmas as run
use Rattle.event_defs.proofs.law.events_are_left.Goals as goal

-- the number of events asks for no stimulus
no_stimulus : Stimulus
no_stimulus = record { columns = 0; rows = [] }

pub returns-clause-start : goal.returns-clause-start
returns-clause-start c image banks until fits some = run.starts_left image no_stimulus banks until fits some

pub returns-clause-falls : goal.returns-clause-falls
returns-clause-falls c image stimulus banks until order old answers new fits some sound = run.run_falls image stimulus banks until fits some order old answers new sound
