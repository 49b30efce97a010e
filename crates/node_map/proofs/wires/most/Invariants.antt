use Rattle.std.proofs.Common.{◌≡◌}
use Rattle.node_map.specs.code.Wires.{most_of}
use Rattle.node_map.proofs.wires.most.Given as goal

abbrev pub invariant-wires : goal.invariant-wires
invariant-wires l = l.greatest ≡ most_of l.numbers l.group.first l.i
