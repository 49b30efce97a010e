-- What a crew needs, and what it has done once all its members are done.
use Rattle.std.specs.Prelude.{All, List, Option, Some, length, slice_get, slice_index, ℕ, ◌+◌, ◌-◌, ◌<◌, ◌^◌, ◌≡◌, ◌≢◌, ◌≤◌}
use Rattle.limits.specs.declared.TheConstants.{MAX_PORTS}
use Rattle.crew_run.specs.declared.gate.Gate as gate
use Rattle.crew_run.specs.declared.stepper.Stepper as stepper
use Rattle.crew_run.specs.{declared.worker.Worker.Worker, Visits.AreVisits}

module _ {S : Type 0} (m : stepper.Ghosts S) where
  -- the members of one worker can be stepped, and have ports of their own
  pub record AreReady (members : List S) : Type 0 where
    pub port : (k : ℕ) (a : S) → slice_get members k ≡ Some a → m.port a < MAX_PORTS
    pub apart : (j k : ℕ) (a b : S) → slice_get members j ≡ Some a → slice_get members k ≡ Some b → j ≢ k → m.port a ≢ m.port b
    pub begun : (k : ℕ) (a : S) → slice_get members k ≡ Some a → 1 ≤ m.turn a
    pub within : (k : ℕ) (a : S) → slice_get members k ≡ Some a → m.turn a ≤ m.last_turn a + 1
    pub small : (k : ℕ) (a : S) → slice_get members k ≡ Some a → m.last_turn a ≤ 2 ^ 62

  -- all turns are made
  abbrev pub IsDone : S → Type 0
  IsDone a = m.turn a ≡ m.last_turn a + 1

module _ {G : Type 0} (p : gate.Ghosts G) where
  -- there is a gate, and it can be told of 2 ^ 62 turns of each port
  pub record CanTell (gate : Option G) : Type 0 where
    pub told : G
    pub is : gate ≡ Some told
    pub times : All (λ n. n ≤ 2 ^ 62) (p.times told)

module _ {S G : Type 0} (m : stepper.Ghosts S) (p : gate.Ghosts G) where
  -- the count of the member's port leaves room for the turns that the member has left
  abbrev pub HasRoomToRun : S → G → Type 0
  HasRoomToRun a g = slice_index (p.times g) (m.port a) + (m.last_turn a + 1 - m.turn a) ≤ 2 ^ 63

  -- there is a gate, and it can be told of all turns that the members have left
  pub record CanTellOf (members : List S) (gate : Option G) : Type 0 where
    pub told : G
    pub is : gate ≡ Some told
    pub room : (k : ℕ) (a : S) → slice_get members k ≡ Some a → HasRoomToRun a told

  -- the members can be stepped, and the gate can be told of their turns
  pub record CanRun (w : Worker S G) : Type 0 where
    pub members : AreReady m w.members
    pub gate : CanTellOf w.members w.gate

  -- the worker's members are done, each in its place, and its gate was told of their turns
  pub record HasRun (w w' : Worker S G) : Type 0 where
    pub count : length w'.members ≡ length w.members
    pub done : (k : ℕ) (b : S) → slice_get w'.members k ≡ Some b → IsDone m b
    pub same : (k : ℕ) (a b : S) → slice_get w.members k ≡ Some a → slice_get w'.members k ≡ Some b → m.same a b
    pub visits : (g : G) → w.gate ≡ Some g → (g' : G) × (w'.gate ≡ Some g') × AreVisits m p w.members g g'

  abbrev pub AllCanRun : List (Worker S G) → Type 0
  AllCanRun ws = (i : ℕ) (w : Worker S G) → slice_get ws i ≡ Some w → CanRun w

  -- each worker stands where it stood, and has run
  abbrev pub AllHaveRun : List (Worker S G) → List (Worker S G) → Type 0
  AllHaveRun ws ws' = (length ws' ≡ length ws) × ((i : ℕ) (w w' : Worker S G) → slice_get ws i ≡ Some w → slice_get ws' i ≡ Some w' → HasRun w w')
