use Rattle.std.proofs.Common.{Ok, take, ◌+◌}
use Rattle.std.specs.List.{enumerate_from, flat_map}
use Rattle.edge_io.specs.Writing.{Writes}
use Rattle.pack_machine.specs.{Lines.bytes_of_lane, code.Lines.HasLineRoom}
use Rattle.pack_machine.proofs.lines.write_lanes.Given as goal

abbrev pub invariant-lanes : goal.invariant-lanes
invariant-lanes g l = record {
  room : HasLineRoom l.net l.host.image l.room;
  written : Writes g.O.Sink l.fn.out l.out (Ok tt)
      (flat_map (λ p. bytes_of_lane l.net l.host.image (p.0 + 1) p.1) (take l.l (enumerate_from 0 l.lanes.lanes)));
}
