use Rattle.std.proofs.Common.{◌≡◌}
use Rattle.fault_sim.proofs.Looking.{MarksTo}
use Rattle.fault_sim.proofs.look.other_lanes.Given as goal

abbrev pub invariant-columns : goal.invariant-columns
invariant-columns l = record {
  whole : l.s-items ≡ l.net.printed;
  marks : MarksTo l.net l.row l.s-index l.marks;
}
