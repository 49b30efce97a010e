-- What the gates of a run were told.
use Rattle.std.specs.Prelude.{List, Option, Some, length, slice_get, slice_index, ℕ, ◌%◌, ◌+◌, ◌<◌, ◌^◌, ◌≡◌, ◌≤◌}
use Rattle.crew_run.specs.Visits.{IsUntold}
use Rattle.crew_run.specs.declared.gate.Gate as gate

-- of so many ports, which n workers step, worker w steps port q
abbrev pub IsPortOfWorker : ℕ → ℕ → ℕ → ℕ → Type 0
IsPortOfWorker ports n w q = (q < ports) × (q % n ≡ w)

module _ {G : Type 0} (p : gate.Ghosts G) (ports from to n : ℕ) where
  -- the gate of worker w was told as often as there are turns after turn `from` up to turn `to` of each port of the
  -- worker, of turn `to` last, and of no other port
  pub record HasVisits (w : ℕ) (g g' : G) : Type 0 where
    pub times : (q : ℕ) → IsPortOfWorker ports n w q → slice_index (p.times g') q + from ≡ slice_index (p.times g) q + to
    pub latest : (q : ℕ) → IsPortOfWorker ports n w q → from < to → slice_index (p.latest g') q ≡ to
    pub none : (q : ℕ) → IsPortOfWorker ports n w q → to ≡ from → slice_index (p.latest g') q ≡ slice_index (p.latest g) q
    pub elsewhere : (q : ℕ) → ¬ IsPortOfWorker ports n w q → IsUntold p q g g'

  -- the visits of these turns of so many ports with n workers: each of the first n gates has those of its worker, and
  -- the others are as before
  pub record AreVisitsBetween (gates gates' : List (Option G)) : Type 0 where
    pub told : (w : ℕ) (g : G) → w < n → slice_get gates w ≡ Some (Some g) → (g' : G) × (slice_get gates' w ≡ Some (Some g')) × HasVisits w g g'
    pub others : (i : ℕ) → n ≤ i → slice_get gates' i ≡ slice_get gates i

-- the visits of a run of so many ports and turns with n workers
abbrev pub AreVisitsOf : {G : Type 0} → gate.Ghosts G → ℕ → ℕ → ℕ → List (Option G) → List (Option G) → Type 0
AreVisitsOf p ports turns n gates gates' = AreVisitsBetween p ports 0 turns n gates gates'

-- there are as many places as before, and a gate stands where one stood
pub record AreInPlace {G : Type 0} (gates gates' : List (Option G)) : Type 0 where
  pub count : length gates' ≡ length gates
  pub some : (i : ℕ) (g : G) → slice_get gates i ≡ Some (Some g) → (g' : G) × (slice_get gates' i ≡ Some (Some g'))

module _ {G : Type 0} (p : gate.Ghosts G) (turns : ℕ) where
  -- there is a gate, and it can be told of so many turns more of each port
  pub record CanTellTurns (gate : Option G) : Type 0 where
    pub told : G
    pub is : gate ≡ Some told
    pub times : (q : ℕ) → slice_index (p.times told) q + turns ≤ 2 ^ 63

  -- this holds of the first n gates
  abbrev pub AllCanTellTurns : ℕ → List (Option G) → Type 0
  AllCanTellTurns n gates = (i : ℕ) (gate : Option G) → i < n → slice_get gates i ≡ Some gate → CanTellTurns gate
