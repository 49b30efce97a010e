-- A text passes or is refused, and never both.
use Rattle.std.proofs.Common.{◌≡◌, ℕ, List, Result, Ok, Err}
use Rattle.call_steps.specs.Outcome.{Outcome}

-- the two answers of the check of a text's length
abbrev pub passes : List ℕ → Result (List ℕ) Outcome
passes text = Ok text

abbrev pub refuses : Outcome → Result (List ℕ) Outcome
refuses outcome = Err outcome

pub passed_once : (text other : List ℕ) → passes text ≡ passes other → text ≡ other
passed_once text other e = cc

pub refused_once : (o p : Outcome) → refuses o ≡ refuses p → o ≡ p
refused_once o p e = cc

pub never_both : (text : List ℕ) (o : Outcome) → passes text ≡ refuses o → ⊥
never_both text o e = cc
