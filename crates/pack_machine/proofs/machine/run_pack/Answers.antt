-- The crew can run, and after its run the host has made all turns and the gates were told of them.
use Rattle.std.proofs.Common.{ap, arith, drop, length, refl, subst, sym, ◌∙◌, ◌≡◌}
use Rattle.std.proofs.lemmas.{List.take_at, Option.slice_get_within, Result.err_from_is_err_and}
use Rattle.crew_run.specs.Lending.{AllCanRunWith, AllHaveRunWith}
use Rattle.edge_io.specs.Writing.{Writes}
use Rattle.image_defs.specs.declared.image.Image.{Image}
use Rattle.stim_text.specs.Lanes.{AreLanes}
use Rattle.machine_run.proofs.lemmas.TurnLemmas.{in_place_none}
use Rattle.port_host.specs.Rows.{printed_sources}
use Rattle.pack_run.specs.contracts.seated.PackSeatedStepper.TheImpl as seated
use Rattle.pack_machine.specs.{Lines.bytes_of_lanes, code.Crews.at_end, code.Dealt.AreDealt, code.Ends.IsHostAtEnd}
use Rattle.slot_words.specs.packed.Passes.{IsFirstPass}
use Rattle.pack_machine.proofs.RunLemmas.{can_run_all, dealt_at_end, have_visits, in_place}
use Rattle.pack_machine.proofs.machine.run_pack.Goals.{After-as_slice, After-run_with}
use Rattle.pack_machine.proofs.machine.run_pack.Given as given
use Rattle.pack_machine.proofs.machine.run_pack.Goals as goal

pub run_with-requires-after_bounds : goal.run_with-requires-after_bounds
run_with-requires-after_bounds g c κs within =
    subst (λ ws. AllCanRunWith seated.ghosts g.G.Gate ws c.args.gates.now) (sym c.as_mut_slice.ensures.value)
    (can_run_all c.args.image.now c.args.lanes.now c.args.workers c.requires.image c.requires.lanes g.G.Gate c.args.gates.now c.requires.enough c.in_ok-crew.crew c.in_ok-crew.ensures c.requires.tell)

-- the run of the crew
ran : (g : given.Over) (c : After-run_with g) → AllHaveRunWith seated.ghosts g.G.Gate c.in_ok-crew.crew c.args.gates.now c.run_with.new.workers c.run_with.new.gates
ran g c = subst (λ ws. AllHaveRunWith seated.ghosts g.G.Gate ws c.args.gates.now c.run_with.new.workers c.run_with.new.gates) c.as_mut_slice.ensures.value c.run_with.ensures

-- the crew afterwards
crew_is : (g : given.Over) (c : After-as_slice g) → c.as_slice.result.now ≡ c.run_with.new.workers
crew_is g c = c.as_slice.ensures ∙ take_at c.run_with.new.workers (drop (length c.run_with.new.workers) c.in_ok-crew.crew) (length c.in_ok-crew.crew) (ran g (goal.at.After-as_slice g c).After-run_with).worker_count

pub host-requires : goal.host-requires
host-requires g c =
    let at = goal.at.host-requires g c in
    let run = ran g at.After-run_with in
    let is = crew_is g at.After-as_slice in
    let count : length c.as_slice.result.now ≡ c.args.workers = ap length is ∙ (run.worker_count ∙ c.in_ok-crew.ensures.count) in
    record {
      fits = c.requires.image;
      some = omega (arith, count, c.requires.some_workers);
      dealt = subst (λ n. AreDealt (at_end c.args.image.now c.args.lanes.now n) 0 c.as_slice.result.now) (sym count) (subst (AreDealt (at_end c.args.image.now c.args.lanes.now c.args.workers) 0) (sym is)
          (dealt_at_end c.args.image.now c.args.lanes.now c.args.workers c.requires.image c.requires.lanes g.G.Gate c.args.gates.now c.requires.enough c.in_ok-crew.crew c.in_ok-crew.ensures c.run_with.new.workers c.run_with.new.gates run));
    }

pub write_lanes-requires : goal.write_lanes-requires
write_lanes-requires g c = record {
  host = subst (λ (x : Image). IsHostAtEnd x c.args.lanes.now c.host.result.now) (sym c.host.ensures.image_is) c.host.ensures;
  lanes = subst (λ (x : Image). AreLanes x.columns c.args.lanes.now) (sym c.host.ensures.image_is) c.requires.lanes;
  room = c.in_ok-room.ensures c.host.result.now.image (c.requires.printed ∙ ap (λ (x : Image). length (printed_sources x)) (sym c.host.ensures.image_is));
}

pub returns : goal.returns
returns g c =
    let run = ran g (goal.at.returns g c).After-run_with in
    record {
      written = subst (λ x. Writes g.O.Sink c.args.out.now c.write_lanes.new.out c.write_lanes.result (bytes_of_lanes c.args.net.now x c.args.lanes.now)) c.host.ensures.image_is c.write_lanes.ensures;
      visits = have_visits c.args.image.now c.args.lanes.now c.args.workers c.requires.image c.requires.lanes g.G.Gate c.args.gates.now c.requires.enough c.in_ok-crew.crew c.in_ok-crew.ensures c.run_with.new.workers c.run_with.new.gates run;
      unwritten = tt;
      refused = tt;
      kept = in_place c.args.image.now c.args.lanes.now c.args.workers c.requires.image c.requires.lanes g.G.Gate c.args.gates.now c.requires.enough c.in_ok-crew.crew c.in_ok-crew.ensures c.run_with.new.workers c.run_with.new.gates run;
    }

pub returns-in_err-room : goal.returns-in_err-room
returns-in_err-room g c =
    let p = err_from_is_err_and c.from_residual.result c.from_residual.ensures.1 in
    rw p.1 (record { written = tt; visits = tt; unwritten = refl; refused = refl; kept = in_place_none c.args.gates.now })

pub returns-in_err-bar : goal.returns-in_err-bar
returns-in_err-bar g c =
    let p = err_from_is_err_and c.from_residual-in_err-bar.result c.from_residual-in_err-bar.ensures.1 in
    rw p.1 (record { written = tt; visits = tt; unwritten = refl; refused = refl; kept = in_place_none c.args.gates.now })

pub returns-in_err-crew : goal.returns-in_err-crew
returns-in_err-crew g c =
    let p = err_from_is_err_and c.from_residual-in_err-crew.result c.from_residual-in_err-crew.ensures.1 in
    rw p.1 (record { written = tt; visits = tt; unwritten = refl; refused = refl; kept = in_place_none c.args.gates.now })

pub workers_of-requires-clause-passes : goal.workers_of-requires-clause-passes
workers_of-requires-clause-passes g c = record {
  long = c.in_ok-bar.ensures.all.long;
  each = λ p pass at.
      let first = c.in_ok-bar.ensures.all.each p pass at in (
        first.port_is,
        record {
          fits = c.requires.image;
          valid = c.requires.lanes;
          image_is = c.in_ok-bar.ensures.image_is;
          feed_is = c.in_ok-bar.ensures.feed_is;
          first = subst (λ q. IsFirstPass c.in_ok-bar.bar q pass) (sym first.port_is) first;
          there = (let low = slice_get_within c.in_ok-bar.passes p pass at in omega (arith, low, first.port_is, c.in_ok-bar.ensures.all.long));
        },
      );
}
