-- Gates that are lent to workers for a run.
use Rattle.std.specs.Prelude.{List, Option, Some, length, slice_get, ℕ, ◌≡◌, ◌≤◌}
use Rattle.crew_run.specs.declared.gate.Gate as gate
use Rattle.crew_run.specs.declared.stepper.Stepper as stepper
use Rattle.crew_run.specs.{declared.worker.Worker.Worker, Crews.AreReady, Crews.CanTellOf, Crews.HasRun}

-- the worker with this gate in place of its own
abbrev pub lent : {S G : Type 0} → Worker S G → Option G → Worker S G
lent w gate = record { members = w.members; gate = gate }

module _ {S G : Type 0} (m : stepper.Ghosts S) where
  abbrev pub AllAreReady : List (Worker S G) → Type 0
  AllAreReady ws = (i : ℕ) (w : Worker S G) → slice_get ws i ≡ Some w → AreReady m w.members

module _ {S G : Type 0} (m : stepper.Ghosts S) (p : gate.Ghosts G) where
  -- the members of all workers can be stepped, and each worker has a gate in its place that can be told of the turns
  -- that its members have left
  pub record AllCanRunWith (ws : List (Worker S G)) (gates : List (Option G)) : Type 0 where
    pub ready : AllAreReady m ws
    pub enough : length ws ≤ length gates
    pub tell : (i : ℕ) (w : Worker S G) (gate : Option G) → slice_get ws i ≡ Some w → slice_get gates i ≡ Some gate → CanTellOf m p w.members gate

  -- each worker has run with the gate in its place, and the gates past the workers are as before
  pub record AllHaveRunWith (ws : List (Worker S G)) (gates : List (Option G)) (ws' : List (Worker S G)) (gates' : List (Option G)) : Type 0 where
    pub worker_count : length ws' ≡ length ws
    pub gate_count : length gates' ≡ length gates
    pub ran : (i : ℕ) (w w' : Worker S G) (gate gate' : Option G) → slice_get ws i ≡ Some w → slice_get ws' i ≡ Some w' → slice_get gates i ≡ Some gate → slice_get gates' i ≡ Some gate' → HasRun m p (lent w gate) (lent w' gate')
    pub own : (i : ℕ) (w w' : Worker S G) → slice_get ws i ≡ Some w → slice_get ws' i ≡ Some w' → w'.gate ≡ w.gate
    pub others : (i : ℕ) → length ws ≤ i → slice_get gates' i ≡ slice_get gates i
