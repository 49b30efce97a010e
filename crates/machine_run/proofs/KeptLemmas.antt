-- What a crew keeps as its ports come to the end of a block, and as they go on.
use Rattle.std.proofs.Common.{List, Option, Some, ap, arith, drop, length, min, slice_get, subst, sym, take, ℕ, ◌++◌, ◌+◌, ◌<◌, ◌∙◌, ◌≡◌, ◌≤◌}
use Rattle.std.proofs.lemmas.List.{take_at}
use Rattle.crew_run.specs.{Lending.AllCanRunWith, Lending.AllHaveRunWith, declared.worker.Worker.Worker}
use Rattle.crew_run.specs.declared.gate.Gate as gate
use Rattle.image_defs.specs.Places.{host_of}
use Rattle.net_defs.specs.Time.{cycle_count}
use Rattle.port_run.specs.{Pairs.placed, declared.seated.Seated.Seated}
use Rattle.port_run.specs.contracts.seated.SeatedStepper.TheImpl as seated
use Rattle.port_walk.specs.Placed.{CanGoOn}
use Rattle.slot_words.specs.plain.Words.{turns_of}
use Rattle.machine_run.specs.Crews.{CrewView, at_block_end, rows_at_end, turns_left, turns_made}
use Rattle.machine_run.specs.{Dealt.AreDealt, Dealt.IsSeatOf, Kept.IsKept, Kept.view_of, code.Moves.AreMoved, code.Moves.HasGoneOn}
use Rattle.machine_run.specs.{Visits.AllCanTellTurns, Visits.AreInPlace, Visits.AreVisitsBetween, declared.crew.Crew.TheInside.Inside}
use Rattle.machine_run.proofs.BlockLemmas.{can_go_on, dealt_at_end, dealt_in_next}
use Rattle.machine_run.proofs.{CrewLemmas.made_few, CrewLemmas.made_more, CrewLemmas.turns_few, MoveLemmas.have_ended, lemmas.RoomLemmas.can_tell_on}
use Rattle.machine_run.proofs.lemmas.VisitLemmas.{can_run, have_visits, in_place}

-- what was lent and given back stands in the place of what was there
pub back : {X : Type 0} (xs xs' : List X) → length xs' ≡ length xs → take (length xs) (xs' ++ drop (length xs') xs) ≡ xs'
back xs xs' long = take_at xs' (drop (length xs') xs) (length xs) long

module _ {G : Type 0} (a : Inside G) (kept : IsKept a) where
  -- ---- to the end of the block

  module _ (p : gate.Ghosts G) (gates : List (Option G)) (now : CrewView) (is : view_of a ≡ now) (enough : now.workers ≤ length gates) where
    pub can_run_block : AllCanTellTurns p (turns_left now) now.workers gates → AllCanRunWith seated.ghosts p a.workers gates
    can_run_block tell =
        can_run seated.ghosts p (IsSeatOf (view_of a)) (length a.workers) (length a.image.now.ports) (host_of a.image.now) (turns_made (view_of a)) (turns_made (at_block_end (view_of a))) (made_more (view_of a) kept.few) (λ x of. (of.turn, of.until)) a.workers kept.dealt
        (turns_left (view_of a)) gates kept.fits.most_ports (omega (arith, few, turns_few a.image.now a.stim.now kept.fits kept.valid)) (omega (arith, few)) (subst (λ (c : CrewView). c.workers ≤ length gates) (sym is) enough)
        (subst (λ (c : CrewView). AllCanTellTurns p (turns_left c) c.workers gates) (sym is) tell) where
          few : turns_made (at_block_end (view_of a)) ≤ turns_of a.image.now a.stim.now
          few = made_few (view_of a) kept.few

    module _ (ws' : List (Worker Seated G)) (gates' : List (Option G)) (run : AllHaveRunWith seated.ghosts p a.workers gates ws' gates') (rows : ℕ) (rows_are : rows ≡ min (a.first_row + a.window) a.cycles) where
      rows_is : rows ≡ rows_at_end (view_of a)
      rows_is = rows_are ∙ ap (min (a.first_row + a.window)) kept.cycles

      pub kept_at_end : IsKept (record a { workers = ws'; rows = rows })
      kept_at_end = record {
        fits = kept.fits;
        valid = kept.valid;
        cycles = kept.cycles;
        some_cycles = kept.some_cycles;
        some_workers = omega (arith, kept.some_workers, run.worker_count);
        given = omega (arith, rows_is, kept.given, kept.few);
        few = omega (arith, rows_is);
        dealt = subst (λ n. AreDealt (record (view_of a) { workers = n; rows = rows }) 0 ws') (sym run.worker_count)
            (subst (λ r. AreDealt (record (view_of a) { rows = r }) 0 ws') (sym rows_is)
            (dealt_at_end (view_of a) a.workers ws' kept.dealt (have_ended seated.ghosts p a.workers ws' gates gates' run (subst (λ (c : CrewView). c.workers ≤ length gates) (sym is) enough))));
      }

      visits : AreVisitsBetween p (length a.image.now.ports) (turns_made (view_of a)) (turns_made (at_block_end (view_of a))) (length a.workers) gates gates'
      visits = have_visits p (view_of a) kept.few a.workers kept.dealt gates ws' gates' run

      pub visits_at_end : AreVisitsBetween p (length now.image.ports) (turns_made now) (turns_made (record (view_of a) { rows = rows })) now.workers gates gates'
      visits_at_end =
          subst (λ (c : CrewView). AreVisitsBetween p (length c.image.ports) (turns_made c) (turns_made (record (view_of a) { rows = rows })) c.workers gates gates') is
          (subst (λ r. AreVisitsBetween p (length a.image.now.ports) (turns_made (view_of a)) (turns_made (record (view_of a) { rows = r })) (length a.workers) gates gates') (sym rows_is) visits)

      pub can_tell_at_end : AllCanTellTurns p (turns_left now) now.workers gates → AllCanTellTurns p (turns_left (record (view_of a) { rows = rows })) now.workers gates'
      can_tell_at_end tell =
          let had = subst (λ (c : CrewView). AllCanTellTurns p (turns_left c) c.workers gates) (sym is) tell in
          let more = can_tell_on p (length a.image.now.ports) (length a.workers) (turns_made (view_of a)) (turns_made (at_block_end (view_of a))) _ (made_more (view_of a) kept.few) (made_few (view_of a) kept.few) gates gates' run.gate_count visits had in
          subst (λ (c : CrewView). AllCanTellTurns p (turns_left (record (view_of a) { rows = rows })) c.workers gates') is
          (subst (λ r. AllCanTellTurns p (turns_left (record (view_of a) { rows = r })) (length a.workers) gates') (sym rows_is) more)

      pub in_place_at_end : AreInPlace gates gates'
      in_place_at_end = in_place p (view_of a) kept.few a.workers kept.dealt gates ws' gates' run

  -- ---- to the next block

  module _ (now : CrewView) (is : view_of a ≡ now) (done : now.rows ≡ rows_at_end now) (more : now.rows < cycle_count now.stimulus) where
    done_is : a.rows ≡ rows_at_end (view_of a)
    done_is = subst (λ (c : CrewView). c.rows ≡ rows_at_end c) (sym is) done

    more_is : a.rows < cycle_count a.stim.now
    more_is = subst (λ (c : CrewView). c.rows < cycle_count c.stimulus) (sym is) more

    pub can_go_on_all : (w k : ℕ) (worker : Worker Seated G) (seat : Seated) → slice_get a.workers w ≡ Some worker → slice_get worker.members k ≡ Some seat → CanGoOn (placed seat.run)
    can_go_on_all w k worker seat at there =
        can_go_on (view_of a) kept.fits done_is more_is seat (kept.dealt.each w k seat (record { worker = worker; worker_is = at; member_is = there })).seat_is

    pub kept_in_next : (ws' : List (Worker Seated G)) → AreMoved HasGoneOn a.workers ws' → IsKept (record a { workers = ws'; first_row = a.rows })
    kept_in_next ws' moved = record {
      fits = kept.fits;
      valid = kept.valid;
      cycles = kept.cycles;
      some_cycles = kept.some_cycles;
      some_workers = omega (arith, kept.some_workers, moved.0);
      given = omega arith;
      few = omega (arith, kept.some_cycles, more_is);
      dealt = subst (λ n. AreDealt (record (view_of a) { workers = n; first_row = a.rows }) 0 ws') (sym moved.0)
          (dealt_in_next (view_of a) kept.fits done_is more_is a.workers ws' kept.dealt moved);
    }
