-- Beside specs/Lending.antt, what only private functions and proofs cite.
use Rattle.std.specs.Prelude.{List, Option, Some, length, slice_get, ℕ, ◌<◌, ◌≡◌, ◌≤◌}
use Rattle.crew_run.specs.{declared.worker.Worker.Worker, Lending.lent}

module _ {S G : Type 0} where
  -- the first n workers have the gates in their places for their own, which stand there
  pub record AreSwapped (n : ℕ) (ws : List (Worker S G)) (gates : List (Option G)) (ws' : List (Worker S G)) (gates' : List (Option G)) : Type 0 where
    pub worker_count : length ws' ≡ length ws
    pub gate_count : length gates' ≡ length gates
    pub taken : (i : ℕ) (w : Worker S G) (gate : Option G) → i < n → slice_get ws i ≡ Some w → slice_get gates i ≡ Some gate → slice_get ws' i ≡ Some (lent w gate)
    pub given : (i : ℕ) (w : Worker S G) → i < n → slice_get ws i ≡ Some w → slice_get gates' i ≡ Some w.gate
    pub other_workers : (i : ℕ) → n ≤ i → slice_get ws' i ≡ slice_get ws i
    pub other_gates : (i : ℕ) → n ≤ i → slice_get gates' i ≡ slice_get gates i
