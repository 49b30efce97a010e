use Rattle.std.proofs.Common.{Ok, ◌≤◌}
use Rattle.edge_io.specs.Writing.{Writes}
use Rattle.machine_run.specs.Lines.{lines_between}
use Rattle.pack_machine.specs.code.Lines.{HasLineRoom, cells_in_lane}
use Rattle.pack_machine.proofs.lines.write_rows.Given as goal

abbrev pub invariant-rows : goal.invariant-rows
invariant-rows g l = record {
  room : HasLineRoom l._net l.host.image l.room;
  few : l.c ≤ l.cycles;
  written : Writes g.O.Sink l.fn.out l.out (Ok tt)
      (lines_between (cells_in_lane l.host l.lane) 0 l.c);
}
