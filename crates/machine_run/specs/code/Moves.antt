-- What becomes of the members of workers, each in its place.
use Rattle.std.specs.Prelude.{List, Some, length, slice_get, ℕ, ◌<◌, ◌≡◌, ◌≤◌}
use Rattle.crew_run.specs.{Crews.IsDone, code.Phases.Each, declared.worker.Worker.Worker}
use Rattle.crew_run.specs.declared.stepper.Stepper as stepper
use Rattle.port_run.specs.{Pairs.next_block, declared.seated.Seated.Seated}

-- the relation leads from each member to the one that stands in its place, of as many
abbrev pub AreMoved : {S G : Type 0} → (S → S → Type 0) → List (Worker S G) → List (Worker S G) → Type 0
AreMoved R ws ws' = Each (λ w w'. Each R w.members w'.members) ws ws'

-- it leads from each of the first n to the one that stands in its place, and the others are as before
module _ {X : Type 0} (R : X → X → Type 0) where
  pub record AreFirst (n : ℕ) (xs xs' : List X) : Type 0 where
    pub count : length xs' ≡ length xs
    pub moved : (i : ℕ) (x x' : X) → i < n → slice_get xs i ≡ Some x → slice_get xs' i ≡ Some x' → R x x'
    pub others : (i : ℕ) → n ≤ i → slice_get xs' i ≡ slice_get xs i

-- the second stands for the first, and has made all its turns
pub record HasEnded {S : Type 0} (m : stepper.Ghosts S) (seat seat' : S) : Type 0 where
  pub same : m.same seat seat'
  pub done : IsDone m seat'

-- the same port, in its next block
pub record HasGoneOn (seat seat' : Seated) : Type 0 where
  pub run : seat'.run ≡ next_block seat.run

-- each of the members
abbrev pub HaveGoneOn : List Seated → List Seated → Type 0
HaveGoneOn = Each HasGoneOn
