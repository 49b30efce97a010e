use Rattle.event_defs.proofs.StuckLemmas as stuck
use Rattle.event_defs.proofs.law.foremost_moves.Goals as goal

pub returns-clause-some : goal.returns-clause-some
returns-clause-some c image stimulus banks until state fits some sound = stuck.foremost_steps image stimulus banks until fits some state sound

pub returns-clause-each : goal.returns-clause-each
returns-clause-each c image stimulus banks until state p port answer new fits some sound = stuck.foremost_moves image stimulus banks until fits some state sound p port answer new
