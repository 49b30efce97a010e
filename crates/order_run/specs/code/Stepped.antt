-- The steps that a core has made, and where it stands.
use Rattle.std.specs.Prelude.{◌≡◌, ◌⊎◌, ℕ, List, None, Option, Some}
use Rattle.event_defs.specs.{declared.place.CoreStep.CoreStep, Steps.AreSteps}
use Rattle.order_run.specs.Core.{AreDone, CoreView, IsSameCore, rows_of, state_of, turns_of}

-- a core has made the steps of these ports, one by one
pub record HasStepped (old new : CoreView) (order : List ℕ) : Type 0 where
  pub same : IsSameCore old new
  pub answers : List CoreStep
  pub steps : AreSteps old.image old.stimulus old.banks (turns_of old) order (state_of old) answers (state_of new)

-- how many rows are done, if a port is not done
abbrev pub IsEndingOf : CoreView → Option ℕ → Type 0
IsEndingOf core ending = (AreDone core × (ending ≡ None)) ⊎ ((AreDone core → ⊥) × (ending ≡ Some (rows_of core)))
