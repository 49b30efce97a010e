use Rattle.port_host.proofs.RowLemmas.{printed_more}
use Rattle.port_host.proofs.cells.print.Goals as goal

pub sources-preserved : goal.sources-preserved
sources-preserved c =
    rw c.set.ensures
    (printed_more c.args.bank.now c.args.sources.now c.sources.j c.args.start _ c.take.result c.args.cells.now c.sources.cells c.sources-test.true c.requires.room c.sources.invariant c.take.ensures)
