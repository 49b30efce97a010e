use Rattle.std.proofs.Common.{length}
use Rattle.event_defs.specs.Steps.{first_state}
use Rattle.event_defs.proofs.lemmas.KeptLemmas.{starts_sound}
use Rattle.event_defs.proofs.ExistLemmas as exist
use Rattle.event_defs.proofs.law.steps_exist.Goals as goal

pub returns : goal.returns
returns c image stimulus banks until order fits some low =
    exist.steps_exist image stimulus banks until fits some order low (first_state (length image.ports)) (starts_sound image stimulus banks until fits some)
