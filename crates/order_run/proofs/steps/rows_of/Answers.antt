use Rattle.order_run.proofs.RowLemmas.{shown_more}
use Rattle.order_run.proofs.steps.rows_of.Goals as goal

pub cycles-preserved : goal.cycles-preserved
cycles-preserved c =
    rw c.in_ok-push.ensures.ok (shown_more c.args.core.now.image c.args.core.now.stimulus c.cycles.c c.cycles.rows c.in_ok-cells.cells c.cycles.invariant (rw c.in_ok-cells.ensures c.cells.ensures.long) (rw c.in_ok-cells.ensures c.cells.ensures.cells))
