-- Ports that are dealt to the workers of a crew.
use Rattle.std.specs.Prelude.{List, Some, length, slice_get, ℕ, ◌%◌, ◌*◌, ◌+◌, ◌<◌, ◌≡◌, ◌≢◌, ◌≤◌}
use Rattle.crew_run.specs.declared.worker.Worker.{Worker}
use Rattle.image_defs.specs.Places.{host_of}
use Rattle.port_run.specs.declared.seated.Seated.{Seated}
use Rattle.machine_run.specs.Crews.{CrewView, rows_at_end, turns_made}

-- a port of the crew's run, in the block of the crew, after the turns that the crew has made
pub record IsSeatOf (crew : CrewView) (seat : Seated) : Type 0 where
  pub image : seat.run.pass.image ≡ crew.image
  pub stimulus : seat.run.pass.feed ≡ crew.stimulus
  pub window : seat.run.window ≡ crew.window
  pub first_row : seat.run.first_row ≡ crew.first_row
  pub until : seat.run.until ≡ crew.image.units * rows_at_end crew
  pub turn : seat.run.pass.place.turn ≡ turns_made crew + 1

-- what the members of the first n ports are made of, in their order
pub record ArePasses {P : Type 0} (port_of : P → ℕ) (May : P → Type 0) (n : ℕ) (passes : List P) : Type 0 where
  pub long : length passes ≡ n
  pub each : (p : ℕ) (pass : P) → slice_get passes p ≡ Some pass → (port_of pass ≡ p) × May pass

module _ {S G : Type 0} where
  -- place k of worker w has this member
  pub record IsMember (ws : List (Worker S G)) (w k : ℕ) (member : S) : Type 0 where
    pub worker : Worker S G
    pub worker_is : slice_get ws w ≡ Some worker
    pub member_is : slice_get worker.members k ≡ Some member

-- ---- members that are dealt by their ports

module _ {S : Type 0} (port_of : S → ℕ) (Fits : S → Type 0) (workers ports : ℕ) where
  -- what is dealt to worker w of so many workers: a member that fits, whose port is one of so many, from port `from` on
  pub record IsDealtFrom (from w : ℕ) (seat : S) : Type 0 where
    pub seat_is : Fits seat
    pub from_is : from ≤ port_of seat
    pub inside : port_of seat < ports
    pub whose : port_of seat % workers ≡ w

module _ {S G : Type 0} (port_of : S → ℕ) where
  -- port p is member number k of its worker
  pub record HasPortOf (workers : ℕ) (ws : List (Worker S G)) (p k : ℕ) : Type 0 where
    pub seat : S
    pub member : IsMember ws (p % workers) k seat
    pub port_is : port_of seat ≡ p

  -- the ports from this number on are dealt to the workers, each once; the host is the first member of its worker
  pub record AreDealtFrom (Fits : S → Type 0) (workers ports host_at from : ℕ) (ws : List (Worker S G)) : Type 0 where
    pub count : length ws ≡ workers
    pub each : (w k : ℕ) (seat : S) → IsMember ws w k seat → IsDealtFrom port_of Fits workers ports from w seat
    pub apart : (w j k : ℕ) (a b : S) → IsMember ws w j a → IsMember ws w k b → j ≢ k → port_of a ≢ port_of b
    pub all : (p : ℕ) → from ≤ p → p < ports → (k : ℕ) × HasPortOf workers ws p k
    pub host : from ≤ host_at → HasPortOf workers ws host_at 0

-- ---- the ports of a crew

-- the ports of the image from this number on are dealt to the workers, each once; the host is the first member of its
-- worker
abbrev pub AreDealt : {G : Type 0} → CrewView → ℕ → List (Worker Seated G) → Type 0
AreDealt {G} crew from ws = AreDealtFrom (λ (s : Seated). s.run.pass.port) (IsSeatOf crew) crew.workers (length crew.image.ports) (host_of crew.image) from ws
