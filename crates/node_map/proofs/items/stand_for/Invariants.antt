use Rattle.node_map.proofs.ItemLemmas.{StandTo}
use Rattle.node_map.proofs.items.stand_for.Given as goal

abbrev pub invariant-signals : goal.invariant-signals
invariant-signals l = StandTo l.numbering.names l.signals l.signal-index l.numbers
