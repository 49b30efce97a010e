-- Each row's line is written after those before it.
use Rattle.std.proofs.Common.{ap, arith, refl, subst, sym, ◌+◌, ◌∙◌, ◌≡◌}
use Rattle.std.proofs.lemmas.Result.{err_from_is_err_and}
use Rattle.machine_run.proofs.lemmas.LinesLemmas.{lines_begin, lines_cut, lines_one, lines_written}
use Rattle.machine_run.specs.Lines.{lines_between}
use Rattle.edge_io.specs.Writing.{Takes}
use Rattle.net_defs.specs.Trace.{cycle_line}
use Rattle.pack_machine.proofs.LineLemmas.{cells_wide, room_written, row_fits}
use Rattle.stim_text.proofs.lemmas.LaneLemmas.{longest_few}
use Rattle.stim_text.specs.Lanes.{own_stimulus}
use Rattle.pack_machine.specs.code.Lines.{cells_in_lane}
use Rattle.pack_machine.proofs.lines.write_rows.Goals as goal

pub rows-init : goal.rows-init
rows-init g c = record { room = c.requires.room; few = omega arith; written = lines_begin (cells_in_lane c.args.host.now c.args.lane) _ _ 0 refl }

pub fill_row-requires-clause-done : goal.fill_row-requires-clause-done
fill_row-requires-clause-done g c = omega (arith, c.rows-test.true, c.requires.done)

pub row-requires : goal.row-requires
row-requires g c =
    record {
      room = rw c.as_slice.ensures (row_fits c.args._net.now c.args.host.now.image c.rows.room _
          (cells_wide c.args.host.now.image (own_stimulus c.args.host.now.image.columns c.args.host.now.feed c.args.lane) (c.rows.c + 1) _ c.fill_row.ensures) c.rows.invariant.room);
      cycle = omega (arith, c.rows-test.true, c.requires.done, longest_few c.args.host.now.image.columns c.args.host.now.feed c.requires.lanes);
    }

pub returns-in_err-write_piece : goal.returns-in_err-write_piece
returns-in_err-write_piece g c =
    let p = err_from_is_err_and c.from_residual.result c.from_residual.ensures.1 in
    let cells = cells_in_lane c.args.host.now c.args.lane in
    let bytes : c.row.new.self.bytes ≡ lines_between cells c.rows.c (c.rows.c + 1) = ap (λ l. l.bytes) c.row.ensures ∙ (ap (cycle_line (c.rows.c + 1)) (c.as_slice.ensures ∙ c.fill_row.ensures) ∙ sym (lines_one cells c.rows.c)) in
    rw (p.1, p.2) (record {
      room = room_written c.args._net.now c.args.host.now.image c.rows.room _ _ (ap (λ l. l.room) c.row.ensures)
          (cells_wide c.args.host.now.image (own_stimulus c.args.host.now.image.columns c.args.host.now.feed c.args.lane) (c.rows.c + 1) _ c.fill_row.ensures) c.rows.invariant.room;
      written = lines_cut cells _ _ _ _ _ _ 0 c.rows.c (c.rows.c + 1) c.rows.invariant.written (omega arith) (omega arith) c.write_piece.result (subst (Takes _ _ _ _ _) (c.bytes.ensures ∙ bytes) c.write_piece.ensures) c.in_err-write_piece.field-0.0 _ (omega (arith, c.rows-test.true)) c.in_err-write_piece.was;
    })

pub rows-preserved : goal.rows-preserved
rows-preserved g c =
    let cells = cells_in_lane c.args.host.now c.args.lane in
    let bytes : c.row.new.self.bytes ≡ lines_between cells c.rows.c (c.rows.c + 1) = ap (λ l. l.bytes) c.row.ensures ∙ (ap (cycle_line (c.rows.c + 1)) (c.as_slice.ensures ∙ c.fill_row.ensures) ∙ sym (lines_one cells c.rows.c)) in
    record {
      room = room_written c.args._net.now c.args.host.now.image c.rows.room _ _ (ap (λ l. l.room) c.row.ensures)
          (cells_wide c.args.host.now.image (own_stimulus c.args.host.now.image.columns c.args.host.now.feed c.args.lane) (c.rows.c + 1) _ c.fill_row.ensures) c.rows.invariant.room;
      few = omega (arith, c.rows-test.true);
      written = lines_written cells _ _ _ _ _ _ 0 c.rows.c (c.rows.c + 1) c.rows.invariant.written (omega arith) (omega arith) c.write_piece.result (subst (Takes _ _ _ _ _) (c.bytes.ensures ∙ bytes) c.write_piece.ensures) c.in_ok-write_piece.was;
    }
