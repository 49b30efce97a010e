use Rattle.std.proofs.Common.{ap, arith, length, refl, subst, suc, sym, zero, ℕ, ◌+◌, ◌∙◌, ◌≡◌, ◌≤◌}
use Rattle.std.proofs.lemmas.Result.{err_from_is_err_and}
use Rattle.std.specs.Result.{OnErr}
use Rattle.edge_io.proofs.lemmas.WritingLemmas.{writes_same}
use Rattle.machine_run.proofs.lemmas.{RoomLemmas.can_tell_at_first, TurnLemmas.in_place_none}
use Rattle.machine_run.specs.{Crews.CrewView, Crews.at_first, Crews.turns_left, Visits.AllCanTellTurns}
use Rattle.machine_run.specs.{Blocks.AreVisitsOfRun, Blocks.block_cycles, Blocks.window_of, Lines.bytes_of_run, Stops.StopsInBlock}
use Rattle.net_defs.specs.Time.{cycle_count}
use Rattle.port_host.specs.Rows.{printed_sources}
use Rattle.machine_run.proofs.blocks.run_blocks.Goals as goal

pub returns-in_err-line : goal.returns-in_err-line
returns-in_err-line g c =
    let refused = err_from_is_err_and c.from_residual.result c.from_residual.ensures.1 in
    rw refused.1 (record { written = tt; visits = tt; stopped = tt; unwritten = refl; untold = refl; kept = in_place_none c.args.gates.now })

pub make-requires : goal.make-requires
make-requires g c = record {
  image = c.requires.image;
  stimulus = c.requires.stimulus;
  columns = c.requires.columns;
  some = c.requires.some_banks;
  few = c.requires.few_banks;
}

pub returns-in_err-bar : goal.returns-in_err-bar
returns-in_err-bar g c =
    let refused = err_from_is_err_and c.from_residual-in_err-bar.result c.from_residual-in_err-bar.ensures.1 in
    rw refused.1 (record { written = tt; visits = tt; stopped = tt; unwritten = refl; untold = refl; kept = in_place_none c.args.gates.now })

pub window-window-requires : goal.window-window-requires
window-window-requires g c = c.len.ensures ∙ c.requires.printed

-- a block has a cycle
some_cycles : (n : ℕ) → 1 ≤ block_cycles n
some_cycles zero = omega arith
some_cycles (suc n) = omega arith

pub new-requires-2 : goal.new-requires-2
new-requires-2 g c = record {
  fits = c.requires.image;
  valid = c.requires.stimulus;
  columns = c.requires.columns;
  image = c.in_ok-bar.ensures.image_is;
  stimulus = c.in_ok-bar.ensures.feed_is;
  passes = c.in_ok-bar.ensures.all;
  some = c.requires.some_workers;
  some_cycles = rw c.window-window.ensures (some_cycles (c.args.image.now.columns + length (printed_sources c.args.image.now)));
}

pub returns-in_err-crew : goal.returns-in_err-crew
returns-in_err-crew g c =
    let refused = err_from_is_err_and c.from_residual-in_err-crew.result c.from_residual-in_err-crew.ensures.1 in
    rw refused.1 (record { written = tt; visits = tt; stopped = tt; unwritten = refl; untold = refl; kept = in_place_none c.args.gates.now })

pub cycles-requires : goal.cycles-requires
cycles-requires g c = c.requires.stimulus

pub write_run-wrote-requires-clause-begins : goal.write_run-wrote-requires-clause-begins
write_run-wrote-requires-clause-begins g c κs within = subst (λ (v : CrewView). v ≡ at_first v.image v.stimulus v.workers (window_of v.image)) (sym c.in_ok-crew.ensures) (ap (at_first c.args.image.now c.args.stim.now c.args.division.workers) c.window-window.ensures)

pub write_run-wrote-requires-clause-all : goal.write_run-wrote-requires-clause-all
write_run-wrote-requires-clause-all g c κs within = c.cycles.ensures ∙ ap (λ (v : CrewView). cycle_count v.stimulus) (sym c.in_ok-crew.ensures)

pub write_run-wrote-requires-clause-cycles : goal.write_run-wrote-requires-clause-cycles
write_run-wrote-requires-clause-cycles g c κs within = omega (arith, c.cycles.ensures, c.requires.stimulus.cycles)

pub write_run-wrote-requires-clause-enough : goal.write_run-wrote-requires-clause-enough
write_run-wrote-requires-clause-enough g c κs within = subst (λ (v : CrewView). v.workers ≤ length c.args.gates.now) (sym c.in_ok-crew.ensures) c.requires.enough

pub write_run-wrote-requires-clause-tell : goal.write_run-wrote-requires-clause-tell
write_run-wrote-requires-clause-tell g c κs within =
    subst (λ (v : CrewView). AllCanTellTurns g.G.Gate (turns_left v) v.workers c.args.gates.now) (sym c.in_ok-crew.ensures)
    (can_tell_at_first g.G.Gate c.args.image.now c.args.stim.now c.args.division.workers c.window-window.result c.args.gates.now c.requires.image c.requires.stimulus c.requires.tell)

pub write_run-wrote-requires-clause-printed : goal.write_run-wrote-requires-clause-printed
write_run-wrote-requires-clause-printed g c κs within = c.requires.printed ∙ ap (λ (v : CrewView). length (printed_sources v.image)) (sym c.in_ok-crew.ensures)

pub write_run-wrote-requires-clause-room : goal.write_run-wrote-requires-clause-room
write_run-wrote-requires-clause-room g c κs within = c.in_ok-line.ensures.room

pub returns : goal.returns
returns g c = record {
  written = writes_same _ _ _ _ _ (bytes_of_run c.args.net.now c.in_ok-crew.crew.image c.in_ok-crew.crew.stimulus) (bytes_of_run c.args.net.now c.args.image.now c.args.stim.now)
      (ap (λ (v : CrewView). bytes_of_run c.args.net.now v.image v.stimulus) c.in_ok-crew.ensures) c.write_run-wrote.ensures.written;
  visits = subst (λ (v : CrewView). AreVisitsOfRun g.G.Gate v.image v.stimulus v.workers c.args.gates.now c.write_run-wrote.new.gates c.write_run-wrote.result) c.in_ok-crew.ensures c.write_run-wrote.ensures.visits;
  stopped = subst (λ (v : CrewView). OnErr c.write_run-wrote.result (StopsInBlock c.args.net.now v.image v.stimulus g.G.Gate v.workers c.args.gates.now c.write_run-wrote.new.gates (g.O.Sink.taken c.args.out.now) (g.O.Sink.taken c.write_run-wrote.new.out)))
      c.in_ok-crew.ensures c.write_run-wrote.ensures.stopped;
  unwritten = tt;
  untold = tt;
  kept = c.write_run-wrote.ensures.kept;
}
