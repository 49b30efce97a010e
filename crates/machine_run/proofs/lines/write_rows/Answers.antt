use Rattle.std.proofs.Common.{ap, arith, subst, sym, ◌+◌, ◌∙◌, ◌≡◌}
use Rattle.edge_io.specs.Writing.{Takes}
use Rattle.net_defs.specs.Trace.{cycle_line}
use Rattle.machine_run.specs.Lines.{cells_shown, lines_between}
use Rattle.machine_run.proofs.lemmas.LinesLemmas.{lines_cut, lines_one, lines_written, row_shown}
use Rattle.machine_run.proofs.lines.write_rows.Goals as goal

pub returns-in-Err-clause-written : goal.returns-in-Err-clause-written
returns-in-Err-clause-written g c =
    let cells = cells_shown c.args.host.now.port.image c.args.host.now.port.stimulus in
    let shown : c.cells.result.now ≡ cells (c.rows.c + 1) = row_shown c.args.host.now.port.image c.args.host.now.port.stimulus (c.rows.c + 1) c.cells.result.now c.cells.ensures.long c.cells.ensures.cells in
    let bytes : c.row.new.self.bytes ≡ lines_between cells c.rows.c (c.rows.c + 1) = ap (λ l. l.bytes) c.row.ensures ∙ (ap (cycle_line (c.rows.c + 1)) shown ∙ sym (lines_one cells c.rows.c)) in
    lines_cut cells _ _ _ _ _ _ c.args.host.now.first_row c.rows.c (c.rows.c + 1) c.rows.invariant.written c.rows.invariant.from (omega arith) c.write_line.result (subst (Takes _ _ _ _ _) bytes c.write_line.ensures) c.in-Err.no _ (omega (arith, c.rows-test.true, c.rows_done-c-end.ensures)) c.in-Err.is

pub rows-preserved : goal.rows-preserved
rows-preserved g c =
    let cells = cells_shown c.args.host.now.port.image c.args.host.now.port.stimulus in
    let shown : c.cells.result.now ≡ cells (c.rows.c + 1) = row_shown c.args.host.now.port.image c.args.host.now.port.stimulus (c.rows.c + 1) c.cells.result.now c.cells.ensures.long c.cells.ensures.cells in
    let bytes : c.row.new.self.bytes ≡ lines_between cells c.rows.c (c.rows.c + 1) = ap (λ l. l.bytes) c.row.ensures ∙ (ap (cycle_line (c.rows.c + 1)) shown ∙ sym (lines_one cells c.rows.c)) in
    record {
      room = ap (λ l. l.room) c.row.ensures ∙ c.rows.invariant.room;
      from = omega (arith, c.rows.invariant.from);
      few = omega (arith, c.rows.invariant.from, c.rows-test.true, c.rows_done-c-end.ensures);
      written = lines_written cells _ _ _ _ _ _ c.args.host.now.first_row c.rows.c (c.rows.c + 1) c.rows.invariant.written c.rows.invariant.from (omega arith) c.write_line.result (subst (Takes _ _ _ _ _) bytes c.write_line.ensures) c.in_default.is;
    }
