use Rattle.event_defs.proofs.StuckLemmas as stuck
use Rattle.event_defs.proofs.law.some_port_moves.Goals as goal

pub returns : goal.returns
returns c image stimulus banks until state fits some sound idle = stuck.all_done image stimulus banks until fits some state sound idle
