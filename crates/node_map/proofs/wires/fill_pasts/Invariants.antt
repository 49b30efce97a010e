use Rattle.std.proofs.Common.{◌≡◌, map, length}
use Rattle.node_map.specs.code.Wires.{past_of, pasts_to}
use Rattle.node_map.proofs.wires.fill_pasts.Given as goal

abbrev pub invariant-places : goal.invariant-places
invariant-places l = l.pasts.items ≡ pasts_to (length l.ops) (map (past_of l.net l.own l.late) l.ops) l.place
