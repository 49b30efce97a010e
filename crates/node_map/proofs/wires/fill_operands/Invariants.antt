use Rattle.std.proofs.Common.{◌≡◌, map, take}
use Rattle.node_map.specs.code.Wires.{past_of}
use Rattle.node_map.proofs.wires.fill_operands.Given as goal

abbrev pub invariant-operands : goal.invariant-operands
invariant-operands l = l.pasts.items ≡ map (past_of l.net l.own l.late) (take l.operand-index l.ops)
