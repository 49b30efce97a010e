use Rattle.pack_walk.proofs.CellLemmas.{none_printed, printed_all}
use Rattle.pack_walk.proofs.cells.print.Goals as goal

pub sources-init : goal.sources-init
sources-init c = none_printed c.args.bank.now c.args.sources.now c.args.start c.args.cells.now

pub sources-preserved : goal.sources-preserved
sources-preserved c =
    rw c.set.ensures
    (printed_all c.args.bank.now c.args.sources.now c.sources.j c.args.start _ c.take.result c.args.cells.now c.sources.cells c.sources-test.true c.requires.room c.sources.invariant c.take.ensures)
