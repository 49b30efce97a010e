use Rattle.event_defs.proofs.lemmas.KeptLemmas as kept
use Rattle.event_defs.proofs.law.takes_find_this_turn.Goals as goal

pub returns : goal.returns
returns c image stimulus banks until p port slot old new fits some is sound take =
    kept.read_value image stimulus banks until fits some old sound p port is slot take.x take.reads take.moves
