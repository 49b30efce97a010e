use Rattle.std.proofs.Common.{◌≡◌, replicate}
use Rattle.node_map.proofs.numbering.zeros.Given as goal

abbrev pub invariant-places : goal.invariant-places
invariant-places l = l.numbers ≡ replicate l._place 0
