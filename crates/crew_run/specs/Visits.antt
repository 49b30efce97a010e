-- What the gate of a worker was told.
use Rattle.std.specs.Prelude.{List, Some, slice_get, slice_index, ℕ, ◌+◌, ◌-◌, ◌<◌, ◌≡◌, ◌≢◌, ◌≤◌}
use Rattle.crew_run.specs.declared.gate.Gate as gate
use Rattle.crew_run.specs.declared.stepper.Stepper as stepper

-- the port is that of none of the members
abbrev pub IsElsewhere : {S : Type 0} → stepper.Ghosts S → List S → ℕ → Type 0
IsElsewhere m members q = (k : ℕ) (a : _) → slice_get members k ≡ Some a → m.port a ≢ q

module _ {G : Type 0} (p : gate.Ghosts G) where
  -- the gate was not told of this port
  pub record IsUntold (q : ℕ) (g g' : G) : Type 0 where
    pub times : slice_index (p.times g') q ≡ slice_index (p.times g) q
    pub latest : slice_index (p.latest g') q ≡ slice_index (p.latest g) q

module _ {S G : Type 0} (m : stepper.Ghosts S) (p : gate.Ghosts G) where
  -- the gate was told as often as there are turns from that of the member to its last one, and of the last one last
  pub record IsTold (a : S) (g g' : G) : Type 0 where
    pub times : slice_index (p.times g') (m.port a) ≡ slice_index (p.times g) (m.port a) + (m.last_turn a + 1 - m.turn a)
    pub latest : m.turn a ≤ m.last_turn a → slice_index (p.latest g') (m.port a) ≡ m.last_turn a
    pub before : m.last_turn a < m.turn a → slice_index (p.latest g') (m.port a) ≡ slice_index (p.latest g) (m.port a)

  -- the gate was told of the turns of these members, and of no other port
  pub record AreVisits (members : List S) (g g' : G) : Type 0 where
    pub told : (k : ℕ) (a : S) → slice_get members k ≡ Some a → IsTold a g g'
    pub elsewhere : (q : ℕ) → IsElsewhere m members q → IsUntold p q g g'
