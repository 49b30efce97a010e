-- The line of the lane is written, then the header of its trace, and then the rows.
use Rattle.std.proofs.Common.{ap, arith, sym, ◌∙◌}
use Rattle.std.proofs.lemmas.{Option.slice_get_within, Result.err_from_is_err_and}
use Rattle.machine_run.specs.Lines.{bytes_of_run, lines_between}
use Rattle.edge_io.proofs.lemmas.WritingLemmas.{writes_same, writes_stop, writes_then}
use Rattle.net_defs.specs.Time.{cycle_count}
use Rattle.stim_text.proofs.lemmas.LaneLemmas.{own_cycles}
use Rattle.pack_machine.proofs.LineLemmas.{headed, marked, own_is}
use Rattle.pack_machine.specs.code.Lines.{cells_in_lane}
use Rattle.pack_machine.proofs.lines.write_lane.Goals as goal

pub cycles-requires : goal.cycles-requires
cycles-requires g c = c.requires.lanes.valid c.args.lane _ c.requires.lane

pub write_rows-requires : goal.write_rows-requires
write_rows-requires g c =
    let all = c.cycles.ensures ∙ ap cycle_count (sym (own_is c.args.host.now.image.columns c.args.host.now.feed c.args.lane _ c.requires.lane)) in
    record {
      host = c.requires.host;
      lanes = c.requires.lanes;
      lane = slice_get_within _ _ _ c.requires.lane;
      done = omega (arith, all, own_cycles c.args.host.now.image.columns c.args.host.now.feed c.args.lane);
      room = headed _ _ _ _ (ap (λ l. l.room) c.header.ensures) (marked _ _ _ _ (ap (λ l. l.room) c.lane.ensures) c.requires.room);
    }

pub returns : goal.returns
returns g c =
    let own = own_is c.args.host.now.image.columns c.args.host.now.feed c.args.lane _ c.requires.lane in
    let all = c.cycles.ensures ∙ ap cycle_count (sym own) in
    record {
      room = c.write_rows.ensures.room;
      written = writes_then _ _ _ _ _ _ _ _ _ _ _ _ c.in_ok-write_piece.was (c.bytes.ensures ∙ ap (λ l. l.bytes) c.lane.ensures) c.write_piece.ensures
          (writes_same _ _ _ _ _ _ _ (ap (bytes_of_run c.args.net.now c.args.host.now.image) own)
          (writes_then _ _ _ _ _ _ _ _ _ _ _ _ c.in_ok-write_piece-2.was (c.bytes-2.ensures ∙ ap (λ l. l.bytes) c.header.ensures) c.write_piece-2.ensures
          (writes_same _ _ _ _ _ _ _ (ap (lines_between (cells_in_lane c.args.host.now c.args.lane) 0) all) c.write_rows.ensures.written)));
    }

pub returns-in_err-write_piece : goal.returns-in_err-write_piece
returns-in_err-write_piece g c =
    let p = err_from_is_err_and c.from_residual.result c.from_residual.ensures.1 in
    rw (p.1, p.2) (record {
      room = marked _ _ _ _ (ap (λ l. l.room) c.lane.ensures) c.requires.room;
      written = writes_stop _ _ _ _ _ _ _ _ _ c.in_err-write_piece.was (c.bytes.ensures ∙ ap (λ l. l.bytes) c.lane.ensures) c.write_piece.ensures;
    })

pub returns-in_err-write_piece-2 : goal.returns-in_err-write_piece-2
returns-in_err-write_piece-2 g c =
    let p = err_from_is_err_and c.from_residual-in_err-write_piece-2.result c.from_residual-in_err-write_piece-2.ensures.1 in
    rw (p.1, p.2) (record {
      room = headed _ _ _ _ (ap (λ l. l.room) c.header.ensures) (marked _ _ _ _ (ap (λ l. l.room) c.lane.ensures) c.requires.room);
      written = writes_then _ _ _ _ _ _ _ _ _ _ _ _ c.in_ok-write_piece.was (c.bytes.ensures ∙ ap (λ l. l.bytes) c.lane.ensures) c.write_piece.ensures
          (writes_stop _ _ _ _ _ _ _ _ _ c.in_err-write_piece-2.was (c.bytes-2.ensures ∙ ap (λ l. l.bytes) c.header.ensures) c.write_piece-2.ensures);
    })
