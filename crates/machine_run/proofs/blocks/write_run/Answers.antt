use Rattle.std.proofs.Common.{ap, arith, ◌∙◌, ◌≡◌}
use Rattle.std.proofs.lemmas.Result.{err_from_is_err_and}
use Rattle.std.specs.Io.KnownBytes.{append_known}
use Rattle.edge_io.proofs.lemmas.WritingLemmas.{writes_same, writes_stop, writes_then}
use Rattle.machine_run.proofs.{lemmas.TurnLemmas.in_place_none, RunLemmas.stops_first, RunLemmas.visits_begin}
use Rattle.machine_run.specs.Lines.{cells_shown, lines_between}
use Rattle.machine_run.proofs.blocks.write_run.Goals as goal

pub run_all-requires-clause-room : goal.run_all-requires-clause-room
run_all-requires-clause-room g c κs within =
    let same : c.header.new.self.room ≡ c.args.line.now.room = ap (λ l. l.room) c.header.ensures in
    omega (arith, same, c.requires.room.rows, c.requires.printed)

pub returns : goal.returns
returns g c =
    let header = ap (λ l. l.bytes) c.header.ensures in
    let wrote = rw c.in_ok-write_line.was at c.write_line.ensures in
    record {
      written = writes_then _ _ _ _ _ _ _ _ _ _ _ _ c.in_ok-write_line.was header c.write_line.ensures
          (writes_same _ _ _ _ _ _ _ (ap (lines_between (cells_shown c.args.crew.now.image c.args.crew.now.stimulus) 0) c.requires.all) c.run_all.ensures.written);
      visits = c.run_all.ensures.visits;
      stopped = c.run_all.ensures.stopped c.args.net.now _ (wrote.whole ∙ ap (append_known (g.O.Sink.taken c.args.out.now)) header);
      kept = c.run_all.ensures.kept;
    }

pub returns-in_err-write_line : goal.returns-in_err-write_line
returns-in_err-write_line g c =
    let p = err_from_is_err_and c.from_residual.result c.from_residual.ensures.1 in
    let header = ap (λ l. l.bytes) c.header.ensures in
    let visits = visits_begin g.G.Gate c.args.crew.now.image c.args.crew.now.stimulus c.args.crew.now.workers c.args.gates.now in
    rw (p.1, p.2) (record {
      written = writes_stop _ _ _ _ c.write_line.result c.in_err-write_line.field-0.0 _ _ _ c.in_err-write_line.was header c.write_line.ensures;
      visits = record { blocks = 0; visits = visits };
      stopped = record { blocks = 0; visits = visits; taken = stops_first c.args.net.now c.args.crew.now.image c.args.crew.now.stimulus _ _ _ _ c.write_line.result c.in_err-write_line.field-0.0 _ c.in_err-write_line.was header c.write_line.ensures };
      kept = in_place_none c.args.gates.now;
    })
