use Rattle.std.proofs.Common.{arith, length, sym, ◌<◌, ◌∙◌}
use Rattle.std.proofs.lemmas.Option.{slice_get-get_or}
use Rattle.port_host.specs.Rows.{rows_done}
use Rattle.machine_run.proofs.RowLemmas.{filled_all, filled_more, wide_more}
use Rattle.machine_run.proofs.rows.fill_rows.Goals as goal

pub fill_row-requires : goal.fill_row-requires
fill_row-requires c =
    let within : c.cycles.c < length c.cycles.rows = omega (arith, c.cycles-test.true, c.rows_done-c-end.ensures, c.cycles.invariant.0.cycles_are) in
    c.cycles.invariant.0.width c.cycles.c _ (slice_get-get_or c.cycles.rows c.cycles.c c.index-rows-c.result within) ∙ sym c.cells.ensures.long

pub cycles-preserved : goal.cycles-preserved
cycles-preserved c =
    let port = c.args.host.now.port in
    let within : c.cycles.c < length c.cycles.rows = omega (arith, c.cycles-test.true, c.rows_done-c-end.ensures, c.cycles.invariant.0.cycles_are) in (
      wide_more port.image port.stimulus (rows_done port) c.cycles.c c.cycles.rows c.fill_row.new.row c.cells.result.now within c.fill_row.ensures c.cells.ensures.long c.cycles.invariant.0,
      filled_more port.image port.stimulus (rows_done port) c.cycles.c c.cycles.rows c.fill_row.new.row c.cells.result.now within c.fill_row.ensures c.cells.ensures.long c.cells.ensures.cells c.cycles.invariant.1,
    )

pub returns : goal.returns
returns c =
    let port = c.args.host.now.port in
    filled_all port.image port.stimulus (rows_done port) c.cycles.c c.cycles.rows (omega (arith, c.cycles-test.false, c.rows_done-c-end.ensures)) c.cycles.invariant.0 c.cycles.invariant.1
