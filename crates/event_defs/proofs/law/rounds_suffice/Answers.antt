use Rattle.event_defs.proofs.lemmas.RunLemmas as run
use Rattle.event_defs.proofs.law.rounds_suffice.Goals as goal

pub returns : goal.returns
returns c image stimulus banks until state fits some = run.rounds_suffice image stimulus banks until fits some state
