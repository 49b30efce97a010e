-- A crew of packed ports that runs through all turns: it can, and then its gates were told of them, and its ports
-- have made them.
use Rattle.std.proofs.Common.{List, Option, Some, ap, arith, length, slice_get, ℕ, ◌*◌, ◌+◌, ◌<◌, ◌^◌, ◌∙◌, ◌≡◌, ◌≤◌}
use Rattle.std.proofs.lemmas.Nat.{mul-le}
use Rattle.crew_run.specs.{Crews.CanTell, Lending.AllCanRunWith, Lending.AllHaveRunWith, declared.worker.Worker.Worker}
use Rattle.crew_run.specs.declared.gate.Gate as gate
use Rattle.image_defs.specs.{Places.host_of, WellFormed.IsWellFormed, declared.image.Image.Image}
use Rattle.limits.specs.declared.TheConstants.{MAX_CYCLES, MAX_UNITS}
use Rattle.machine_run.proofs.{MoveLemmas.dealt_moved, MoveLemmas.have_ended, lemmas.RoomLemmas.can_tell_few}
use Rattle.machine_run.proofs.lemmas.VisitLemmas.{all_visited, can_run, visited_in_place}
use Rattle.machine_run.specs.{Visits.AreInPlace, Visits.AreVisitsOf, code.Moves.HasEnded}
use Rattle.stim_text.proofs.lemmas.LaneLemmas.{longest_few}
use Rattle.stim_text.specs.{Lanes.AreLanes, Lanes.longest, declared.lanes.Lanes.Lanes}
use Rattle.pack_run.specs.{Pairs.last_turn, declared.seated.PackSeated.PackSeated}
use Rattle.pack_run.specs.contracts.seated.PackSeatedStepper.TheImpl as seated
use Rattle.slot_words.specs.packed.Words.{turns_of}
use Rattle.pack_machine.specs.code.{Crews.at_end, Crews.at_first, Dealt.AreDealt, Dealt.IsSeatOf}

module _ {G : Type 0} (image : Image) (lanes : Lanes) (workers : ℕ) (fits : IsWellFormed image) (are : AreLanes image.columns lanes) (p : gate.Ghosts G) (gates : List (Option G)) (enough : workers ≤ length gates)
    (ws : List (Worker PackSeated G)) (dealt : AreDealt (at_first image lanes workers) 0 ws) where
  -- a run has few turns
  turns_few : turns_of image lanes ≤ 2 ^ 62
  turns_few = let most : image.units * longest lanes ≤ MAX_UNITS * MAX_CYCLES = mul-le _ _ _ _ fits.units.1 (longest_few image.columns lanes are) in omega (arith, most)

  -- a member makes them all
  last_is : (a : PackSeated) → IsSeatOf (at_first image lanes workers) a → last_turn a.run ≡ turns_of image lanes
  last_is a is = ap (λ (x : Image). turns_of x a.run.feed) is.image ∙ ap (turns_of image) is.lanes

  -- ---- before the run

  pub can_run_all : ((i : ℕ) (gate : Option G) → i < workers → slice_get gates i ≡ Some gate → CanTell p gate) → AllCanRunWith seated.ghosts p ws gates
  can_run_all tell = can_run seated.ghosts p (IsSeatOf (at_first image lanes workers)) workers (length image.ports) (host_of image) 0 (turns_of image lanes) (omega arith) (λ a is. (is.turn, last_is a is)) ws dealt
      (turns_of image lanes) gates fits.most_ports turns_few (omega arith) enough (can_tell_few p (turns_of image lanes) workers gates turns_few tell)

  -- ---- after the run

  module _ (ws' : List (Worker PackSeated G)) (gates' : List (Option G)) (run : AllHaveRunWith seated.ghosts p ws gates ws' gates') where
    pub have_visits : AreVisitsOf p (length image.ports) (turns_of image lanes) workers gates gates'
    have_visits = all_visited seated.ghosts p (IsSeatOf (at_first image lanes workers)) workers (length image.ports) (host_of image) 0 (turns_of image lanes) (omega arith) (λ a is. (is.turn, last_is a is)) ws dealt gates ws' gates' run

    pub in_place : AreInPlace gates gates'
    in_place = visited_in_place p (length image.ports) 0 (turns_of image lanes) workers gates gates' run.gate_count have_visits

    ended_leads : (a b : PackSeated) → IsSeatOf (at_first image lanes workers) a → HasEnded seated.ghosts a b → (b.run.port ≡ a.run.port) × IsSeatOf (at_end image lanes workers) b
    ended_leads a b is ended = (
      ended.same.port,
      record { image = ended.same.image ∙ is.image; lanes = ended.same.lanes ∙ is.lanes; turn = ended.done ∙ ap (λ t. t + 1) (ended.same.last_turn ∙ last_is a is) },
    )

    -- they have made all turns
    pub dealt_at_end : AreDealt (at_end image lanes workers) 0 ws'
    dealt_at_end = dealt_moved seated.ghosts.port (IsSeatOf (at_first image lanes workers)) (IsSeatOf (at_end image lanes workers)) workers (length image.ports) (host_of image) (HasEnded seated.ghosts) ws ws' ended_leads dealt
        (have_ended seated.ghosts p ws ws' gates gates' run (omega (arith, enough, dealt.count)))
