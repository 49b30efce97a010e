use Rattle.std.proofs.Common.{ap, arith, length, refl, subst, sym, suc, ◌∙◌, ◌≡◌, ◌≢◌, ◌≤◌}
use Rattle.edge_io.proofs.lemmas.WritingLemmas.{writes_same}
use Rattle.machine_run.proofs.RunLemmas.{block_taken, later, no_cycle, over_first, over_more, rows_are, rows_left, stops_in, visits_all, visits_more}
use Rattle.machine_run.proofs.lemmas.{TurnLemmas.in_place_on, LinesLemmas.lines_begin, LinesLemmas.lines_cut, LinesLemmas.lines_written}
use Rattle.machine_run.specs.{Crews.CrewView, Crews.rows_at_end, Crews.turns_left, Visits.AllCanTellTurns, Blocks.cycles_of_blocks}
use Rattle.machine_run.specs.Lines.{cells_shown, lines_between}
use Rattle.limits.specs.declared.TheConstants.{MAX_CYCLES}
use Rattle.port_host.specs.Rows.{printed_sources}
use Rattle.trace_text.specs.Line.{row_room}
use Rattle.net_defs.specs.Time.{cycle_count}
use Rattle.machine_run.proofs.blocks.run_all.Goals as goal

pub runs-init : goal.runs-init
runs-init g c = record {
  run = (0, over_first g.G.Gate c.args.crew.now.image c.args.crew.now.stimulus c.args.crew.now.workers c.args.gates.now c.args.crew.now c.requires.begins c.requires.tell, lines_begin (cells_shown c.args.crew.now.image c.args.crew.now.stimulus) _ _ _ (no_cycle g.G.Gate c.args.crew.now.image c.args.crew.now.stimulus c.args.crew.now.workers c.args.gates.now));
  room = refl;
}

pub run_block-requires-clause-enough : goal.run_block-requires-clause-enough
run_block-requires-clause-enough g c κs within = let (k, over, written) = c.runs.invariant.run in subst (λ (v : CrewView). v.workers ≤ length c.runs.gates) (sym over.crew_is) (omega (arith, over.kept.count, c.requires.enough))

pub run_block-requires-clause-tell : goal.run_block-requires-clause-tell
run_block-requires-clause-tell g c κs within = let (k, over, written) = c.runs.invariant.run in subst (λ (v : CrewView). AllCanTellTurns g.G.Gate (turns_left v) v.workers c.runs.gates) (sym over.crew_is) over.tell

pub run_block-requires-clause-room : goal.run_block-requires-clause-room
run_block-requires-clause-room g c κs within = let (k, over, written) = c.runs.invariant.run in subst (λ (v : CrewView). row_room (length (printed_sources v.image)) ≤ c.runs.line.room) (sym over.crew_is) (omega (arith, c.requires.room, c.runs.invariant.room))

pub run_block-requires-clause-cycles : goal.run_block-requires-clause-cycles
run_block-requires-clause-cycles g c κs within = let (k, over, written) = c.runs.invariant.run in subst (λ (v : CrewView). cycle_count v.stimulus ≤ MAX_CYCLES) (sym over.crew_is) (omega (arith, c.requires.cycles, c.requires.all))

pub returns-in-Err : goal.returns-in-Err
returns-in-Err g c =
    let (k, over, written) = c.runs.invariant.run in
    let taken = block_taken g.G.Gate c.args.crew.now.image c.args.crew.now.stimulus c.args.crew.now.workers c.args.gates.now k _ _ _ c.run_block.new.gates over c.run_block.ensures.ran _ _ _ _ _ c.run_block.ensures.written in
    let visits = visits_more g.G.Gate c.args.crew.now.image c.args.crew.now.stimulus c.args.crew.now.workers c.args.gates.now k _ _ _ c.run_block.new.gates over c.run_block.ensures.ran c.run_block.ensures.visits in
    record {
      written = lines_cut (cells_shown c.args.crew.now.image c.args.crew.now.stimulus) _ _ _ _ _ _ 0 (cycles_of_blocks c.args.crew.now.image c.args.crew.now.stimulus k) (cycles_of_blocks c.args.crew.now.image c.args.crew.now.stimulus (suc k)) written (omega arith) (later g.G.Gate c.args.crew.now.image c.args.crew.now.stimulus c.args.crew.now.workers c.args.gates.now k _ _ _ c.run_block.new.gates over c.run_block.ensures.ran) c.run_block.result taken c.in-Err.no c.args.cycles (omega (arith, c.requires.all)) c.in-Err.is;
      visits = record { blocks = suc k; visits = visits };
      stopped = λ net before begun. record {
        blocks = suc k;
        visits = visits;
        taken = stops_in net c.args.crew.now.image c.args.crew.now.stimulus k before _ _ _ _ _ _ c.run_block.result c.in-Err.no begun written c.in-Err.is taken;
      };
      kept = in_place_on _ _ _ over.kept c.run_block.ensures.kept;
    }

pub returns-then-rows_done-cycles : goal.returns-then-rows_done-cycles
returns-then-rows_done-cycles g c =
    let (k, over, written) = c.runs.invariant.run in
    let all : cycles_of_blocks c.args.crew.now.image c.args.crew.now.stimulus (suc k) ≡ c.args.cycles = sym (rows_are g.G.Gate c.args.crew.now.image c.args.crew.now.stimulus c.args.crew.now.workers c.args.gates.now k _ _ _ c.run_block.new.gates over c.run_block.ensures.ran) ∙ omega (arith, c.host.ensures.rows, c.rows_done.ensures, c.if-rows_done-cycles.true) in
    let taken = block_taken g.G.Gate c.args.crew.now.image c.args.crew.now.stimulus c.args.crew.now.workers c.args.gates.now k _ _ _ c.run_block.new.gates over c.run_block.ensures.ran _ _ _ _ _ c.run_block.ensures.written in
    record {
      written = writes_same _ _ _ _ _ (lines_between (cells_shown c.args.crew.now.image c.args.crew.now.stimulus) 0 (cycles_of_blocks c.args.crew.now.image c.args.crew.now.stimulus (suc k))) (lines_between (cells_shown c.args.crew.now.image c.args.crew.now.stimulus) 0 c.args.cycles) (ap (lines_between (cells_shown c.args.crew.now.image c.args.crew.now.stimulus) 0) all)
          (lines_written (cells_shown c.args.crew.now.image c.args.crew.now.stimulus) _ _ _ _ _ _ 0 (cycles_of_blocks c.args.crew.now.image c.args.crew.now.stimulus k) (cycles_of_blocks c.args.crew.now.image c.args.crew.now.stimulus (suc k)) written (omega arith) (later g.G.Gate c.args.crew.now.image c.args.crew.now.stimulus c.args.crew.now.workers c.args.gates.now k _ _ _ c.run_block.new.gates over c.run_block.ensures.ran) c.run_block.result taken c.in_default.is);
      visits = visits_all g.G.Gate c.args.crew.now.image c.args.crew.now.stimulus c.args.crew.now.workers c.args.gates.now k _ _ _ c.run_block.new.gates over c.run_block.ensures.ran c.run_block.ensures.visits (omega (arith, c.host.ensures.rows, c.rows_done.ensures, c.if-rows_done-cycles.true, c.requires.all));
      stopped = λ net before begun. tt;
      kept = in_place_on _ _ _ over.kept c.run_block.ensures.kept;
    }

pub go_on-requires : goal.go_on-requires
go_on-requires g c =
    let (k, over, written) = c.runs.invariant.run in
    let more : c.run_block.new.crew.rows ≢ cycle_count c.args.crew.now.stimulus = λ same. c.if-rows_done-cycles.false (omega (arith, c.host.ensures.rows, c.rows_done.ensures, c.requires.all, same)) in
    record {
      done = subst (λ (v : CrewView). v.rows ≡ rows_at_end v) (sym c.run_block.ensures.ran) refl;
      more = rows_left g.G.Gate c.args.crew.now.image c.args.crew.now.stimulus c.args.crew.now.workers c.args.gates.now k _ _ _ c.run_block.new.gates over c.run_block.ensures.ran c.run_block.ensures.visits c.run_block.ensures.tell c.run_block.ensures.kept more;
    }

pub runs-preserved : goal.runs-preserved
runs-preserved g c =
    let (k, over, written) = c.runs.invariant.run in
    let more : c.run_block.new.crew.rows ≢ cycle_count c.args.crew.now.stimulus = λ same. c.if-rows_done-cycles.false (omega (arith, c.host.ensures.rows, c.rows_done.ensures, c.requires.all, same)) in
    let taken = block_taken g.G.Gate c.args.crew.now.image c.args.crew.now.stimulus c.args.crew.now.workers c.args.gates.now k _ _ _ c.run_block.new.gates over c.run_block.ensures.ran _ _ _ _ _ c.run_block.ensures.written in
    record {
      run = (
        suc k,
        over_more g.G.Gate c.args.crew.now.image c.args.crew.now.stimulus c.args.crew.now.workers c.args.gates.now k _ _ _ c.run_block.new.gates over c.run_block.ensures.ran c.run_block.ensures.visits c.run_block.ensures.tell c.run_block.ensures.kept more _ c.go_on.ensures,
        lines_written (cells_shown c.args.crew.now.image c.args.crew.now.stimulus) _ _ _ _ _ _ 0 (cycles_of_blocks c.args.crew.now.image c.args.crew.now.stimulus k) (cycles_of_blocks c.args.crew.now.image c.args.crew.now.stimulus (suc k)) written (omega arith) (later g.G.Gate c.args.crew.now.image c.args.crew.now.stimulus c.args.crew.now.workers c.args.gates.now k _ _ _ c.run_block.new.gates over c.run_block.ensures.ran) c.run_block.result taken c.in_default.is,
      );
      room = c.run_block.ensures.room ∙ c.runs.invariant.room;
    }
