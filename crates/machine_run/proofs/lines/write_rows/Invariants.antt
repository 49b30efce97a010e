use Rattle.std.proofs.Common.{Ok, ◌-◌, ◌≡◌, ◌≤◌}
use Rattle.edge_io.specs.Writing.{Writes}
use Rattle.port_host.specs.Rows.{rows_done}
use Rattle.machine_run.specs.Lines.{cells_shown, lines_between}
use Rattle.machine_run.proofs.lines.write_rows.Given as goal

abbrev pub invariant-rows : goal.invariant-rows
invariant-rows g l = record {
  room : l.line.room ≡ l.fn.line.room;
  from : l.host.first_row ≤ l.c;
  few : l.c - l.host.first_row ≤ rows_done l.host.port - l.host.first_row;
  written : Writes g.O.Sink l.fn.out l.out (Ok tt)
      (lines_between (cells_shown l.host.port.image l.host.port.stimulus) l.host.first_row l.c);
}
