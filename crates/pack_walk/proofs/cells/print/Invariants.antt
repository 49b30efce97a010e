use Rattle.pack_walk.specs.code.Cells.{HasPrintedAll}
use Rattle.pack_walk.proofs.cells.print.Given as goal

abbrev pub invariant-sources : goal.invariant-sources
invariant-sources l = HasPrintedAll l.bank l.sources l.j l.start l.fn.cells l.cells
