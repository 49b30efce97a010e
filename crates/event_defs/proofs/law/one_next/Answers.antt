use Rattle.event_defs.proofs.lemmas.NextLemmas as next
use Rattle.event_defs.proofs.law.one_next.Goals as goal

pub returns : goal.returns
returns c image p port place banks until value one other fits is = next.one_next image fits p port is place banks until value one other
