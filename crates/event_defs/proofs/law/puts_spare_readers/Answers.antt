use Rattle.event_defs.proofs.lemmas.KeptLemmas as kept
use Rattle.event_defs.proofs.law.puts_spare_readers.Goals as goal

pub returns : goal.returns
returns c image stimulus banks until p port slot old new fits some is sound put =
    kept.put_spares image stimulus banks until fits some old sound p port is slot put.next
