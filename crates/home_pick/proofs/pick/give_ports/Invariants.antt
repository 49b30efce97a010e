use Rattle.std.proofs.Common.{◌≡◌, ◌-◌}
use Rattle.home_pick.specs.code.Rooms.{AreItemPorts, AreTurned}
use Rattle.home_pick.proofs.pick.give_ports.Given as goal

abbrev pub invariant-items : goal.invariant-items
invariant-items l = record {
  so_far : AreItemPorts l.nodes l.machine l.blocks l.i l.turns.ports;
  turned : AreTurned l.nodes l.machine l.turns.ports (l.i - l.nodes.first_node) l.turns.left l.turns.skips;
  whole : l.items ≡ l.nodes.items;
}
