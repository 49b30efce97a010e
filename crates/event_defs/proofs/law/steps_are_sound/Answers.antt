use Rattle.std.proofs.Common.{length}
use Rattle.event_defs.specs.Steps.{first_state}
use Rattle.event_defs.proofs.lemmas.KeptLemmas as kept
use Rattle.event_defs.proofs.law.steps_are_sound.Goals as goal

pub returns : goal.returns
returns c image stimulus banks until order answers state fits some =
    kept.steps_sound image stimulus banks until fits some order (first_state (length image.ports)) answers state (kept.starts_sound image stimulus banks until fits some)
