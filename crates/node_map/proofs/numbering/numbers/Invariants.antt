use Rattle.node_map.proofs.NumberLemmas.{NumbersTo}
use Rattle.node_map.proofs.numbering.numbers.Given as goal

abbrev pub invariant-keys : goal.invariant-keys
invariant-keys l = NumbersTo l.starts l.keys l.x l.numbers
