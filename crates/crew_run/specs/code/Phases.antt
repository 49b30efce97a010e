-- What a worker does in a phase.
use Rattle.std.specs.Prelude.{List, Some, length, min, slice_get, slice_index, ℕ, ◌+◌, ◌-◌, ◌<◌, ◌^◌, ◌≡◌, ◌≢◌, ◌≤◌}
use Rattle.crew_run.specs.declared.gate.Gate as gate
use Rattle.crew_run.specs.declared.stepper.Stepper as stepper
use Rattle.crew_run.specs.{declared.worker.Worker.Worker, Crews.AreReady, Crews.IsDone, Visits.IsElsewhere, Visits.IsUntold}

module _ {S : Type 0} (m : stepper.Ghosts S) where
  -- the turn that the member began last, which is the one that its gate was told of last
  abbrev pub begun : S → ℕ
  begun a = min (m.turn a) (m.last_turn a)

  -- b is a some steps later
  pub record Follows (a b : S) : Type 0 where
    pub same : m.same a b
    pub port : m.port b ≡ m.port a
    pub last_turn : m.last_turn b ≡ m.last_turn a
    pub later : m.turn a ≤ m.turn b
    pub within : m.turn a ≤ m.last_turn a + 1 → m.turn b ≤ m.last_turn a + 1

  abbrev pub AreDone : List S → Type 0
  AreDone members = (k : ℕ) (a : S) → slice_get members k ≡ Some a → IsDone m a

module _ {S G : Type 0} (m : stepper.Ghosts S) (p : gate.Ghosts G) where
  -- the gate was told of each turn that began between a and b
  pub record Passes (a b : S) (g g' : G) : Type 0 where
    pub times : slice_index (p.times g') (m.port a) + begun m a ≡ slice_index (p.times g) (m.port a) + begun m b
    pub latest : begun m a < begun m b → slice_index (p.latest g') (m.port a) ≡ begun m b
    pub quiet : begun m b ≡ begun m a → slice_index (p.latest g') (m.port a) ≡ slice_index (p.latest g) (m.port a)

  -- one member was stepped, and no other port was told
  pub record IsStepped (a : S) (g : G) (b : S) (g' : G) : Type 0 where
    pub follows : Follows m a b
    pub passes : Passes a b g g'
    pub others : (q : ℕ) → q ≢ m.port a → IsUntold p q g g'

  -- members and gate some steps later
  pub record AreStepped (members : List S) (g : G) (members' : List S) (g' : G) : Type 0 where
    pub count : length members' ≡ length members
    pub follows : (k : ℕ) (a b : S) → slice_get members k ≡ Some a → slice_get members' k ≡ Some b → Follows m a b
    pub passes : (k : ℕ) (a b : S) → slice_get members k ≡ Some a → slice_get members' k ≡ Some b → Passes a b g g'
    pub elsewhere : (q : ℕ) → IsElsewhere m members q → IsUntold p q g g'

  -- the counts leave room for the turns that are to come
  abbrev pub HasRoomFor : S → G → Type 0
  HasRoomFor a g = slice_index (p.times g) (m.port a) + (m.last_turn a - begun m a) ≤ 2 ^ 63

  pub record CanStep (members : List S) (g : G) : Type 0 where
    pub ready : AreReady m members
    pub room : (k : ℕ) (a : S) → slice_get members k ≡ Some a → HasRoomFor a g

  -- the gate was told of the turn that a is in, where that is one of its turns
  pub record IsBegun (a : S) (g g' : G) : Type 0 where
    pub times : slice_index (p.times g') (m.port a) + m.turn a ≡ slice_index (p.times g) (m.port a) + (begun m a + 1)
    pub latest : m.turn a ≤ m.last_turn a → slice_index (p.latest g') (m.port a) ≡ m.turn a
    pub quiet : m.last_turn a < m.turn a → slice_index (p.latest g') (m.port a) ≡ slice_index (p.latest g) (m.port a)

  -- of the first n members the gate was told, and of no other port
  pub record AreBegun (n : ℕ) (members : List S) (g g' : G) : Type 0 where
    pub told : (k : ℕ) (a : S) → k < n → slice_get members k ≡ Some a → IsBegun a g g'
    pub untold : (k : ℕ) (a : S) → n ≤ k → slice_get members k ≡ Some a → IsUntold p (m.port a) g g'
    pub elsewhere : (q : ℕ) → IsElsewhere m members q → IsUntold p q g g'

  -- a worker between two phases
  pub record CanResume (w : Worker S G) : Type 0 where
    pub gate : G
    pub gate_is : w.gate ≡ Some gate
    pub can : CanStep w.members gate

  -- what a later phase does to a worker
  pub record IsResumed (w w' : Worker S G) : Type 0 where
    pub gate : G
    pub gate_is : w.gate ≡ Some gate
    pub gate' : G
    pub gate'_is : w'.gate ≡ Some gate'
    pub stepped : AreStepped w.members gate w'.members gate'

  -- what the first phase does to it: the gate is told of the turns that the members are in, and they are stepped
  pub record HasBegun (w w' : Worker S G) : Type 0 where
    pub gate : G
    pub gate_is : w.gate ≡ Some gate
    pub told : G
    pub begun : AreBegun (length w.members) w.members gate told
    pub gate' : G
    pub gate'_is : w'.gate ≡ Some gate'
    pub stepped : AreStepped w.members told w'.members gate'

module _ {W : Type 0} where
  -- there are as many workers as before, and the relation leads from each to the one that stands in its place
  abbrev pub Each : (W → W → Type 0) → List W → List W → Type 0
  Each R ws ws' = (length ws' ≡ length ws) × ((i : ℕ) (w w' : W) → slice_get ws i ≡ Some w → slice_get ws' i ≡ Some w' → R w w')
