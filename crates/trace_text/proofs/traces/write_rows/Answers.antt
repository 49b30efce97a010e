-- Each row's line is written after those before it.
use Rattle.std.proofs.Common.{◌≡◌, ◌∙◌, ◌+◌, ◌<◌, ℕ, List, length, get_or, ap, sym, arith, refl}
use Rattle.std.proofs.lemmas.List.FromFn.{get_or-enumerate_from, length-enumerate_from}
use Rattle.std.specs.List.{enumerate_from}
use Rattle.net_defs.specs.{declared.trace.CellRow.CellRow, Trace.cycle_line}
use Rattle.edge_io.proofs.lemmas.WritingLemmas.{writes_none, writes_more, writes_ended, writes_all}
use Rattle.trace_text.proofs.traces.write_rows.Goals as goal

-- a row and its place
numbered : (rows : List CellRow) (i : ℕ) (row : CellRow) → i < length rows → row ≡ get_or rows i row → (i, row) ≡ get_or (enumerate_from 0 rows) i (i, row)
numbered rows i row within at = ap (λ (r : CellRow). (i, r)) at ∙ sym (get_or-enumerate_from 0 rows i (i, row) within ∙ ap (λ (k : ℕ). (k, get_or rows i row)) (omega arith))

pub rows-init : goal.rows-init
rows-init g c = record { room = refl; written = writes_none _ _ }

pub returns-in-Err : goal.returns-in-Err
returns-in-Err g c = record {
  written =
      writes_ended (λ p. cycle_line (p.0 + 1) p.1.cells) (enumerate_from 0 c.args.rows.now) c.rows.i (c.rows.i, c.index-rows-i.result) _ _ _ _ _ _ _ _ _
      (omega (arith, length-enumerate_from 0 c.args.rows.now, c.rows-test.true)) (numbered _ _ _ c.rows-test.true c.index-rows-i.is) c.in-Err.is
      (c.bytes.ensures ∙ ap (λ l. l.bytes) c.row.ensures ∙ ap (cycle_line (c.rows.i + 1)) c.as_slice.ensures) c.rows.invariant.written c.write_piece.ensures;
  room = ap (λ l. l.room) c.row.ensures ∙ c.rows.invariant.room;
}

pub rows-preserved : goal.rows-preserved
rows-preserved g c = record {
  room = ap (λ l. l.room) c.row.ensures ∙ c.rows.invariant.room;
  written =
      writes_more (λ p. cycle_line (p.0 + 1) p.1.cells) (enumerate_from 0 c.args.rows.now) c.rows.i (c.rows.i, c.index-rows-i.result) _ _ _ _ _ _ _ _ _
      (omega (arith, length-enumerate_from 0 c.args.rows.now, c.rows-test.true)) (numbered _ _ _ c.rows-test.true c.index-rows-i.is) c.in_default.is
      (c.bytes.ensures ∙ ap (λ l. l.bytes) c.row.ensures ∙ ap (cycle_line (c.rows.i + 1)) c.as_slice.ensures) c.rows.invariant.written c.write_piece.ensures;
}

pub returns : goal.returns
returns g c = record {
  written = writes_all (λ p. cycle_line (p.0 + 1) p.1.cells) (enumerate_from 0 c.args.rows.now) c.rows.i _ _ _ _ (omega (arith, length-enumerate_from 0 c.args.rows.now, c.rows-test.false)) c.rows.invariant.written;
  room = c.rows.invariant.room;
}
