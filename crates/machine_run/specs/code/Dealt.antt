-- Beside specs/Dealt.antt, what only private functions and proofs cite.
use Rattle.std.specs.Prelude.{List, Some, [], length, slice_get, slice_set, ℕ, ◌++◌, ◌<◌, ◌∷◌, ◌≡◌, ◌≤◌}
use Rattle.crew_run.specs.declared.worker.Worker.{Worker}
use Rattle.image_defs.specs.WellFormed.{IsWellFormed}
use Rattle.net_defs.specs.Valid.{IsValidStimulus}
use Rattle.port_run.specs.declared.seated.Seated.{Seated}
use Rattle.slot_words.specs.plain.Passes.{IsFirstPass, PassView}
use Rattle.machine_run.specs.{Dealt.HasPortOf, declared.seats.CrewSeats.CrewSeats}

-- so many workers without members
pub record AreIdle {S G : Type 0} (n : ℕ) (ws : List (Worker S G)) : Type 0 where
  pub count : length ws ≡ n
  pub idle : (w : ℕ) (worker : Worker S G) → slice_get ws w ≡ Some worker → worker.members ≡ []

-- worker w has this member more, which is its last one
pub record HasGained {S G : Type 0} (ws : List (Worker S G)) (w : ℕ) (member : S) (ws' : List (Worker S G)) : Type 0 where
  pub worker : Worker S G
  pub worker' : Worker S G
  pub at : slice_get ws w ≡ Some worker
  pub gained : worker'.members ≡ worker.members ++ member ∷ []
  pub is : ws' ≡ slice_set ws w worker'

-- port p is member number k of its worker
abbrev pub HasPort : {G : Type 0} → ℕ → List (Worker Seated G) → ℕ → ℕ → Type 0
HasPort {G} n ws p k = HasPortOf (λ (s : Seated). s.run.pass.port) n ws p k

-- a port of the image can be seated with this pass
pub record CanSeat (seats : CrewSeats) (pass : PassView) : Type 0 where
  pub fits : IsWellFormed seats.image.now
  pub valid : IsValidStimulus seats.stim.now
  pub columns : seats.stim.now.columns ≡ seats.image.now.columns
  pub image_is : seats.bar.now.image ≡ seats.image.now
  pub feed_is : seats.bar.now.feed ≡ seats.stim.now
  pub some_cycles : 1 ≤ seats.window
  pub first : IsFirstPass seats.bar.now pass.port pass
  pub there : pass.port < length seats.image.now.ports
