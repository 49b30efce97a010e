use Rattle.std.specs.Prelude.{length}
use Rattle.port_host.specs.Rows.{printed_sources, rows_done}
use Rattle.machine_run.specs.code.Shown.{AreFilled, AreWide}
use Rattle.machine_run.proofs.rows.fill_rows.Given as goal

abbrev pub invariant-cycles : goal.invariant-cycles
invariant-cycles l = AreWide (rows_done l.host.port) (length (printed_sources l.host.port.image)) l.rows × AreFilled l.host.port.image l.host.port.stimulus l.c l.rows
