-- The ports of a crew at the end of its block, and in the next one.
use Rattle.std.proofs.Common.{List, ap, arith, length, sym, ◌*◌, ◌+◌, ◌<◌, ◌∙◌, ◌≡◌}
use Rattle.std.proofs.Math.Nat.{mul-lt-mul_of_pos_left}
use Rattle.crew_run.specs.declared.worker.Worker.{Worker}
use Rattle.image_defs.specs.{Places.host_of, WellFormed.IsWellFormed}
use Rattle.net_defs.specs.Time.{cycle_count}
use Rattle.port_run.specs.{Pairs.placed, declared.seated.Seated.Seated}
use Rattle.port_run.specs.contracts.seated.SeatedStepper.TheImpl as seated
use Rattle.port_walk.specs.Placed.{CanGoOn, block_end}
use Rattle.machine_run.specs.Crews.{CrewView, at_block_end, in_next_block, rows_at_end, turns_made}
use Rattle.machine_run.specs.{Dealt.AreDealt, Dealt.IsSeatOf, code.Moves.AreMoved, code.Moves.HasEnded, code.Moves.HasGoneOn}
use Rattle.machine_run.proofs.MoveLemmas.{dealt_moved}

-- ---- to the end of a block

module _ {G : Type 0} (crew : CrewView) (ws ws' : List (Worker Seated G)) where
  ended_leads : (a b : Seated) → IsSeatOf crew a → HasEnded seated.ghosts a b → (b.run.pass.port ≡ a.run.pass.port) × IsSeatOf (at_block_end crew) b
  ended_leads a b is ended = (
    ended.same.port,
    record {
      image = ended.same.image ∙ is.image;
      stimulus = ended.same.stimulus ∙ is.stimulus;
      window = ended.same.window ∙ is.window;
      first_row = ended.same.first_row ∙ is.first_row;
      until = ended.same.until ∙ is.until;
      turn = ended.done ∙ ap (λ t. t + 1) (ended.same.until ∙ is.until);
    },
  )

  pub dealt_at_end : AreDealt crew 0 ws → AreMoved (HasEnded seated.ghosts) ws ws' → AreDealt (at_block_end crew) 0 ws'
  dealt_at_end = dealt_moved seated.ghosts.port (IsSeatOf crew) (IsSeatOf (at_block_end crew)) crew.workers (length crew.image.ports) (host_of crew.image) (HasEnded seated.ghosts) ws ws' ended_leads

-- ---- to the next block

module _ (crew : CrewView) (fits : IsWellFormed crew.image) (done : crew.rows ≡ rows_at_end crew) (more : crew.rows < cycle_count crew.stimulus) where
  -- the block is a whole one
  whole : crew.first_row + crew.window ≡ crew.rows
  whole = omega (arith, done, more)

  pub can_go_on : (seat : Seated) → IsSeatOf crew seat → CanGoOn (placed seat.run)
  can_go_on seat is =
      let until : seat.run.until ≡ turns_made crew = is.until ∙ ap (λ r. crew.image.units * r) (sym done) in
      record {
        rests = is.turn ∙ ap (λ t. t + 1) (sym until);
        more = rw (until, is.image, is.stimulus) (mul-lt-mul_of_pos_left more fits.units.0);
      }

  next_leads : (a b : Seated) → IsSeatOf crew a → HasGoneOn a b → (b.run.pass.port ≡ a.run.pass.port) × IsSeatOf (in_next_block crew) b
  next_leads a b is gone = (
    ap (λ r. r.pass.port) gone.run,
    record {
      image = ap (λ r. r.pass.image) gone.run ∙ is.image;
      stimulus = ap (λ r. r.pass.feed) gone.run ∙ is.stimulus;
      window = ap (λ r. r.window) gone.run ∙ is.window;
      first_row = ap (λ r. r.first_row) gone.run ∙ next_first;
      until = ap (λ r. r.until) gone.run ∙ next_until;
      turn = ap (λ r. r.pass.place.turn) gone.run ∙ is.turn;
    },
  ) where
    next_first : a.run.first_row + a.run.window ≡ crew.rows
    next_first = omega (arith, is.first_row, is.window, whole)

    next_until : block_end a.run.pass.image a.run.pass.feed (a.run.first_row + a.run.window) a.run.window ≡ crew.image.units * rows_at_end (in_next_block crew)
    next_until =
        ap (λ i. block_end i a.run.pass.feed (a.run.first_row + a.run.window) a.run.window) is.image
        ∙ ap (λ s. block_end crew.image s (a.run.first_row + a.run.window) a.run.window) is.stimulus
        ∙ ap (λ f. block_end crew.image crew.stimulus f a.run.window) next_first
        ∙ ap (λ w. block_end crew.image crew.stimulus crew.rows w) is.window

  pub dealt_in_next : {G : Type 0} (ws ws' : List (Worker Seated G)) → AreDealt crew 0 ws → AreMoved HasGoneOn ws ws' → AreDealt (in_next_block crew) 0 ws'
  dealt_in_next ws ws' = dealt_moved seated.ghosts.port (IsSeatOf crew) (IsSeatOf (in_next_block crew)) crew.workers (length crew.image.ports) (host_of crew.image) HasGoneOn ws ws' next_leads
