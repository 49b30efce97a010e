-- Beside specs/Linked.antt, what only private functions and proofs cite.
use Rattle.std.specs.Prelude.{◌≡◌, ℕ}
use Rattle.event_defs.specs.Steps.{CoreState, stamp_of}

-- two states in which all ports stand at the same places, and the words name the same turns
pub record AreAlike (one other : CoreState) : Type 0 where
  pub place : one.place ≡ other.place
  pub finished : one.finished ≡ other.finished
  pub stamps : (p i b : ℕ) → stamp_of (one.word p i b) ≡ stamp_of (other.word p i b)
