use Rattle.std.proofs.Common.{ap, arith, length, refl, subst, sym, ◌∙◌, ◌≤◌}
use Rattle.std.proofs.lemmas.Result.{err_from_is_err_and}
use Rattle.machine_run.specs.{Crews.CrewView, Crews.turns_left, Visits.AllCanTellTurns}
use Rattle.net_defs.specs.Time.{cycle_count}
use Rattle.machine_run.proofs.lemmas.{RoomLemmas.can_tell_at_first, TurnLemmas.in_place_none}
use Rattle.machine_run.proofs.WholeLemmas.{rows_shown, rows_wide, visits_whole}
use Rattle.machine_run.proofs.machine.run_rows.Goals as goal

pub cycles-cycles-requires : goal.cycles-cycles-requires
cycles-cycles-requires g c = c.requires.stimulus

pub make-requires : goal.make-requires
make-requires g c = record {
  image = c.requires.image;
  stimulus = c.requires.stimulus;
  columns = c.requires.columns;
  some = c.requires.some_banks;
  few = c.requires.few_banks;
}

pub returns-in_err-bar : goal.returns-in_err-bar
returns-in_err-bar g c =
    let refused = err_from_is_err_and c.from_residual.result c.from_residual.ensures.1 in
    rw refused.1 (record { rows = tt; visits = tt; refused = refl; kept = in_place_none c.args.gates.now })

pub new-requires : goal.new-requires
new-requires g c = record {
  fits = c.requires.image;
  valid = c.requires.stimulus;
  columns = c.requires.columns;
  image = c.in_ok-bar.ensures.image_is;
  stimulus = c.in_ok-bar.ensures.feed_is;
  passes = c.in_ok-bar.ensures.all;
  some = c.requires.some_workers;
  some_cycles = omega (arith, c.max.ensures);
}

pub returns-in_err-crew : goal.returns-in_err-crew
returns-in_err-crew g c =
    let refused = err_from_is_err_and c.from_residual-in_err-crew.result c.from_residual-in_err-crew.ensures.1 in
    rw refused.1 (record { rows = tt; visits = tt; refused = refl; kept = in_place_none c.args.gates.now })

pub run_block-requires-clause-enough : goal.run_block-requires-clause-enough
run_block-requires-clause-enough g c κs within = subst (λ (x : CrewView). x.workers ≤ length c.args.gates.now) (sym c.in_ok-crew.ensures) c.requires.enough

pub run_block-requires-clause-tell : goal.run_block-requires-clause-tell
run_block-requires-clause-tell g c κs within =
    subst (λ (x : CrewView). AllCanTellTurns g.G.Gate (turns_left x) x.workers c.args.gates.now) (sym c.in_ok-crew.ensures)
    (can_tell_at_first g.G.Gate c.args.image.now c.args.stim.now c.args.workers c.max.result c.args.gates.now c.requires.image c.requires.stimulus c.requires.tell)

pub fill_rows-requires : goal.fill_rows-requires
fill_rows-requires g c = record {
  none = c.host.ensures.first_row ∙ (ap (λ (x : CrewView). x.first_row) c.run_block.ensures.run ∙ ap (λ (x : CrewView). x.first_row) c.in_ok-crew.ensures);
  room = rows_wide c.args.image.now c.args.stim.now c.args.workers c.max.result c.in_ok-crew.crew c.run_block.new.self c.in_ok-crew.ensures (omega (arith, c.max.ensures, c.cycles-cycles.ensures)) c.run_block.ensures.run c.host.result.now c.host.ensures c.args.rows.now c.requires.room;
}

pub returns : goal.returns
returns g c =
    let whole : cycle_count c.args.stim.now ≤ c.max.result = omega (arith, c.max.ensures, c.cycles-cycles.ensures) in
    record {
      rows = rows_shown c.args.image.now c.args.stim.now c.args.workers c.max.result c.in_ok-crew.crew c.run_block.new.self c.in_ok-crew.ensures whole c.run_block.ensures.run c.host.result.now c.host.ensures c.fill_rows.new.rows c.fill_rows.ensures;
      visits = visits_whole c.args.image.now c.args.stim.now c.args.workers c.max.result c.in_ok-crew.crew c.run_block.new.self c.in_ok-crew.ensures whole c.run_block.ensures.run g.G.Gate c.args.gates.now c.run_block.new.gates c.run_block.ensures.visits;
      refused = tt;
      kept = c.run_block.ensures.kept;
    }
