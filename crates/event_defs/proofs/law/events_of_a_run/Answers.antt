use Rattle.std.proofs.Common.{refl, arith}
use Rattle.event_defs.proofs.lemmas.RunLemmas as run
use Rattle.event_defs.proofs.law.events_of_a_run.Goals as goal

pub returns-clause-most : goal.returns-clause-most
returns-clause-most c image stimulus banks until order answers state fits some = run.at_most image stimulus banks until fits some order answers state

pub returns-clause-exact : goal.returns-clause-exact
returns-clause-exact c image stimulus until order answers state fits = run.exactly image stimulus 1 until fits (omega arith) refl order answers state
