use Rattle.port_host.specs.code.Rows.{HasPrinted}
use Rattle.port_host.proofs.cells.print.Given as goal

abbrev pub invariant-sources : goal.invariant-sources
invariant-sources l = HasPrinted l.bank l.sources l.j l.start l.fn.cells l.cells
